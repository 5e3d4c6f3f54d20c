-- `narrow_parts` meets its contract: what comes back is o with the elements of one chunk more.
use Prim.Native.Nat.{◌*◌}
use native.Mathlib.Nat.{zero-mul}
use Rattle.element.specs.Contents.{fill}
use Rattle.element.proofs.Filling.{chunk}
use Rattle.narrowing.specs.Narrowing.{form}
use Rattle.narrowing.specs.Registers.{element}
use Rattle.narrow.proofs.Places.{elements_in}
use Rattle.narrow.proofs.Chunks.{chunk_made}
use Rattle.narrow.proofs.Flags.{flag}
use Rattle.narrow.proofs.elements.narrow_parts.Goals as goal

pub loop-i-init : goal.loop-i-init
unfolding fill
loop-i-init g c = simp zero-mul

pub loop-i-preserved : goal.loop-i-preserved
loop-i-preserved g c =
    let a = c.args in
    let q = c.requires in
    let l = c.loop-i in
    chunk (elements_in a.s.now a.o.now g.row.W (flag g.row.OP) (flag g.row.U) a.r a.t a.shift) g.row.W a.per l.i a.o.now l.o _ l.invariant
    (chunk_made
    (element (form (flag g.row.OP) (flag g.row.U)) a.r a.t (4 * g.row.W) a.shift)
    g.row.W a.per a.n l.i a.s.now a.o.now l.o c.loop-i-test.true q.source q.target l.invariant
    c.narrow_all.ensures)
