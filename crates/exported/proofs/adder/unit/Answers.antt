-- `unit` meets its contract: its two tests are the definition's, and a size has its log.
use Rattle.element.proofs.Tests.{said_no, said_yes}
use Rattle.exported.proofs.Indexes.{no_length, no_offset, the_unit}
use Rattle.exported.proofs.adder.unit.Goals as goal

pub returns-then-not-length_allowed : goal.returns-then-not-length_allowed
returns-then-not-length_allowed c =
    let a = c.args in
    no_length a.vl a.size a.offset a.w (said_no c.length_allowed.ensures c.if-not-length_allowed.true)

pub returns-then-not-psel_offset : goal.returns-then-not-psel_offset
returns-then-not-psel_offset c =
    let a = c.args in
    no_offset a.vl a.size a.offset a.w (said_yes c.length_allowed.ensures c.if-not-length_allowed.false) (said_no c.psel_offset.ensures c.if-not-psel_offset.true)

pub returns : goal.returns
returns c =
    let a = c.args in
    the_unit a.vl a.size a.offset a.w (said_yes c.length_allowed.ensures c.if-not-length_allowed.false) c.log_of.result c.unit.result (said_yes c.psel_offset.ensures c.if-not-psel_offset.false) c.log_of.ensures c.unit.ensures
