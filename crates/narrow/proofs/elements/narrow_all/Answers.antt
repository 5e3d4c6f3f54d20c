-- `narrow_all` meets its contract: what is read are the elements of s and of the first o, and what comes back is o with one more.
use mathlib.Core.Path.{refl, ◌∙◌}
use native.Mathlib.Nat.{zero-mul}
use borrow.Rule.Slice.PartMut.{same_len_mid}
use Rattle.element.specs.Contents.{fill}
use Rattle.element.proofs.Filling.{again}
use Rattle.part.proofs.Widths.{element_read, element_stored}
use Rattle.narrowing.proofs.Placed.{stored_lt}
use Rattle.narrow.proofs.Places.{elements_in, made, old}
use Rattle.narrow.proofs.Flags.{flag}
use Rattle.narrow.proofs.elements.narrow_all.Goals as goal

pub loop-i-init : goal.loop-i-init
unfolding fill
loop-i-init g c = (refl, simp zero-mul)

pub place-v-requires-clause-fit : goal.place-v-requires-clause-fit
place-v-requires-clause-fit g c = rw c.narrow_one-q.ensures (stored_lt _ _ _ _ _)

pub loop-i-preserved : goal.loop-i-preserved
loop-i-preserved g c =
    let a = c.args in
    let q = c.requires in
    let l = c.loop-i in
    let t = c.loop-i-test.true in
    let f = elements_in a.s.now a.o.now g.row.W (flag g.row.OP) (flag g.row.U) a.r a.t a.shift in
    let x = element_read l.i a.n g.row.W a.s.now t q.source q.word.bytes c.read-x.ensures in
    let y = element_read l.i a.n g.row.W l.o t (l.invariant.0 ∙ q.target) q.word.bytes c.read-y.ensures in (
      same_len_mid _ _ _ _ c.write.auto.o ∙ l.invariant.0,
      again f g.row.W l.i a.n a.o.now l.o _ c.place-v.result t (l.invariant.0 ∙ q.target) l.invariant.1
          (made _ _ _ _ _ c.place-v.ensures c.narrow_one-q.ensures x (y ∙ old f g.row.W l.i a.o.now l.o l.invariant.1))
          (element_stored l.i a.n g.row.W l.o t (l.invariant.0 ∙ q.target) q.word.bytes _ c.write.ensures),
    )
