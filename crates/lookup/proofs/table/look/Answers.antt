-- `look` meets its contract: less than a chunk by `pairs`; else after q turns o begins with the elements of the first q chunks.
use Rattle.std.proofs.Common.{ℕ, ◌/◌, ◌*◌, ◌∙◌}
use native.Mathlib.Nat.{zero-mul, mul_assoc}
use Rattle.element.specs.Contents.{elem, field, fill}
use Rattle.element.proofs.Slots.{reach}
use Rattle.lookup.specs.Lookup.{index_bits}
use Rattle.lookup.proofs.Lookups.{taken_looked}
use Rattle.lookup.proofs.Chunks.{chunks_of, chunk_elements, chunk_within, chunk_again}
use Rattle.lookup.proofs.table.look.Goals as goal

pub loop-q-init : goal.loop-q-init
unfolding fill
loop-q-init g c = simp zero-mul

pub loop-q-preserved : goal.loop-q-preserved
loop-q-preserved g c =
    let a = c.args in
    let v = c.requires.0.bytes in
    let l = c.loop-q in
    let p = 32 / g.row.W in
    let within = chunk_within _ l.q (chunks_of _ v) c.loop-q-test.true in
    chunk_again (λ (e : ℕ). elem 4 (field index_bits e a.s.now) a.zt.now) g.row.W (p * 2) 64 l.q a.o.now l.o _ (chunk_elements v) l.invariant
    (c.pairs-in-loop-q.ensures ∙ taken_looked g.row.W (l.q * p) a.s.now a.zt.now (reach (l.q * p) p) (mul_assoc l.q p 2) within)
