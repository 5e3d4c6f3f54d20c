-- `unit` meets its contract: its test decides between the three numbers and none.
use mathlib.Core.Path.{refl}
use Rattle.element.proofs.Tests.{said_yes}
use Rattle.index.proofs.Ready.{numbers}
use Rattle.index.proofs.unit.Goals as goal

pub returns : goal.returns
returns c =
    let a = c.args in
    numbers a.vl a.log a.w a.offset _ c.mask.result c.index.result (said_yes c.has_unit.ensures c.if-not-has_unit.false) refl c.mask.ensures c.index.ensures.0
