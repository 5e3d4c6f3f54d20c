-- `source` meets its contract: what is lent is the slot.
use mathlib.Core.Path.{ap, ◌∙◌}
use native.Mathlib.Omega.{arith}
use Rattle.element.specs.Contents.{elem}
use Rattle.element.proofs.Slots.{slot_part}
use Rattle.pext.proofs.source.Goals as goal

pub returns : goal.returns
returns c =
    let a = c.args in
    c.counter_of.ensures ∙ ap (elem 2 0) (slot_part 32 2 a.pn a.p.now (omega arith))
