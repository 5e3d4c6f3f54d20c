-- `decode` meets its contract: the row that is read is the first that matches.
use mathlib.Core.Path.{sym, ◌∙◌}
use Rattle.element.proofs.Tests.{said_no, said_yes}
use Rattle.decoder.proofs.Cases.{decode_not_allowed, decode_row, decode_undefined, none_first, place_some}
use Rattle.decoder.proofs.decode.Goals as goal

pub returns-then-not-allowed : goal.returns-then-not-allowed
returns-then-not-allowed c = decode_not_allowed _ _ (said_no c.allowed.ensures c.if-not-allowed.true)

pub returns-in_default : goal.returns-in_default
returns-in_default c = decode_undefined _ _ (said_yes c.allowed.ensures c.if-not-allowed.false) (none_first _ _ (sym c.place_of.ensures ∙ c.in_default.is))

pub returns : goal.returns
returns c = c.read.ensures ∙ decode_row _ _ (said_yes c.allowed.ensures c.if-not-allowed.false) _ (place_some _ (sym c.place_of.ensures ∙ c.in-Some.is))
