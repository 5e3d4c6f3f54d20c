-- `narrow_chunks` meets its contract: what was copied is Zn's slot, and Zd's comes back with what `narrow_parts` made of both.
use mathlib.Core.Path.{ap, ◌∙◌}
use Prim.Native.Nat.{◌*◌}
use native.Mathlib.Nat.{mul_assoc}
use native.Mathlib.Omega.{arith}
use lib.ListN.{length}
use lib.Seq.{take_at}
use Rattle.element.proofs.Slots.{slot_part, slot_length}
use Rattle.narrowing.specs.Narrowing.{form}
use Rattle.narrowing.specs.Registers.{element}
use Rattle.narrow.proofs.Chunks.{slot_made}
use Rattle.narrow.proofs.Flags.{flag}
use Rattle.narrow.proofs.elements.narrow_chunks.Goals as goal

pub returns : goal.returns
returns g c =
    let a = c.args in
    let m = a.n * (a.per * g.row.W) in
    let z = a.z.now in
    let e = c.copy_from_slice.ensures.after ∙ slot_part 256 m a.zn z (omega arith) in
    slot_made (element (form (flag g.row.OP) (flag g.row.U)) a.r a.t (4 * g.row.W) a.shift) g.row.W (a.n * a.per) m a.zn a.zd z _ (omega arith) (mul_assoc a.n a.per g.row.W)
    (take_at c.copy_from_slice.new.self _ m (ap length e ∙ slot_length 256 m a.zn z (omega arith)) ∙ e)
    c.narrow_parts.ensures
