-- `put` meets its contract: the slot comes back as the portion, which its tests let through.
use mathlib.Core.Path.{ap, ◌∙◌}
use mathlib.Core.Bool.{Bool}
use Prim.Native.Nat.{◌+◌, ◌-◌, ◌*◌, ◌/◌}
use native.Mathlib.Omega.{arith}
use lib.ListN.{take, drop}
use Rattle.logic.specs.Pick.{pick}
use Rattle.element.specs.Units.{size_at}
use Rattle.element.proofs.Slots.{part_length, put_back}
use Rattle.counter.specs.Portion.{portion_of, extractable}
use Rattle.pext.proofs.Portions.{portion_length}
use Rattle.pext.proofs.put.Goals as goal

pub returns : goal.returns
returns c =
    let a = c.args in
    let n = a.vl / 64 in
    put_back 32 n a.pd a.p.now _ (portion_of a.vl (size_at a.log) a.portion a.c.0) (omega arith) (portion_length a.vl (size_at a.log) a.portion a.c.0)
    (c.extract.ensures.part
    ∙ ap (λ (b : Bool). pick b (portion_of a.vl (size_at a.log) a.portion a.c.0) (take (32 * a.pd + n - 32 * a.pd) (drop (32 * a.pd) a.p.now))) (ap (extractable a.vl (size_at a.log) a.portion) (part_length 32 n a.pd a.p.now (omega arith)) ∙ c.requires.extracts))
