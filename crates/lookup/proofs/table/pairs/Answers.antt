-- `pairs` meets its contract: after q turns o begins with the elements of the first q bytes.
use Rattle.std.proofs.Common.{ℕ, ◌<◌, length, get_or, arith, ◌∙◌}
use native.Mathlib.Nat.{zero-mul}
use Rattle.element.specs.Contents.{elem, field, fill}
use Rattle.element.proofs.Filling.{chunk}
use Rattle.lookup.specs.Lookup.{index_bits}
use Rattle.lookup.proofs.Lookups.{pair_stored}
use Rattle.lookup.proofs.table.pairs.Goals as goal

pub loop-q-init : goal.loop-q-init
unfolding fill
loop-q-init g c = simp zero-mul

pub loop-q-preserved : goal.loop-q-preserved
loop-q-preserved g c =
    let a = c.args in
    let r = c.requires in
    let l = c.loop-q in
    let byte : get_or a.s.now l.q 0 < 256 = (c.type_inv.s l.q).fits in
    chunk (λ (e : ℕ). elem 4 (field index_bits e a.s.now) a.zt.now) g.row.W 2 l.q a.o.now l.o _ l.invariant
    (pair_stored c.power-m.result g.row.W l.q (length a.s.now) a.s.now a.zt.now l.o c.loop-q-test.true (l.auto.o ∙ r.whole) r.bytes c.power-m.ensures byte c.entry.ensures.0 (rw c.power-m.ensures (r.raised _ (omega arith))) c.write.ensures)
