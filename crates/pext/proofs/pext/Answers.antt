-- `pext` meets its contract: one portion or two are in their slots, of the counter that was read before any was written.
use Rattle.std.proofs.Common.{ℕ, List, length, ◌≡◌, ◌+◌, ◌/◌, ◌%◌, refl, sym, ap, ◌∙◌, arith}
use Rattle.element.specs.Contents.{elem}
use Rattle.element.specs.Slots.{slot, set_slot}
use Rattle.element.specs.Units.{size_at}
use Rattle.element.proofs.Slots.{set_slot_length}
use Rattle.counter.specs.Portion.{portion_of}
use Rattle.counter.proofs.Lengths.{length_is}
use Rattle.pext.specs.Pext.{pext_slots}
use Rattle.pext.specs.Private.{Accepted}
use Rattle.pext.specs.declared.operands.Operands.{Operands}
use Rattle.pext.proofs.Ready.{portion_ready}
use Rattle.pext.proofs.Portions.{one_more, counter_low, worked, untouched}
use Rattle.pext.proofs.pext.Goals as goal

module _ (vl log first portions pn pd x : ℕ) (f : List ℕ) (o : Operands) (k : Accepted o (length f) vl log first portions pn pd) (e : x ≡ elem 2 0 (slot 32 2 o.pn f)) where
  -- one more portion of the counter that was read
  more : (n : ℕ) (p q : List ℕ)
      → p ≡ pext_slots vl (size_at o.log) o.first o.pd (slot 32 (vl / 64) o.pn f) n f
      → q ≡ set_slot 32 (vl / 64) ((o.pd + n) % 16) (portion_of vl (size_at o.log) (o.first + n) x) p
      → q ≡ pext_slots vl (size_at o.log) o.first o.pd (slot 32 (vl / 64) o.pn f) (n + 1) f
  more n p q =
      let l = length_is vl k.allowed in
      one_more vl (size_at o.log) o.first o.pd n x (slot 32 (vl / 64) o.pn f) f p q
      (e ∙ counter_low (vl / 64) o.pn f (omega (arith, l.least)) (omega (arith, l.most, k.file, o.from)))

  -- after the first portion
  begun : (q : List ℕ)
      → q ≡ set_slot 32 (vl / 64) o.pd (portion_of vl (size_at o.log) o.first x) f
      → q ≡ pext_slots vl (size_at o.log) o.first o.pd (slot 32 (vl / 64) o.pn f) 1 f
  unfolding pext_slots
  begun q h =
      let k : (o.pd + 0) % 16 ≡ o.pd = omega (arith, o.to) in
      let m : o.first + 0 ≡ o.first = omega arith in more 0 f q refl (rw (k, m) h)

pub returns-in_default-clause-file : goal.returns-in_default-clause-file
returns-in_default-clause-file c = untouched _ _ _ _ _ _ _ c.in_default.ensures

pub put_at-requires : goal.put_at-requires
put_at-requires c =
    let o = c.in-Some.o in
    let k = c.in-Some.ensures in portion_ready k.file k.allowed o.sized o.first o.pd (omega (arith, o.last, o.some)) o.to

pub put_at-requires-then-o-eq2 : goal.put_at-requires-then-o-eq2
put_at-requires-then-o-eq2 c =
    let o = c.in-Some.o in
    let k = c.in-Some.ensures in
    rw (ap length c.put_at.ensures ∙ set_slot_length 32 (c.args.vl / 64) _ _ _) (portion_ready k.file k.allowed o.sized (o.first + 1) ((o.pd + 1) % 16) (omega (arith, o.last, c.if-o-eq2.true)) (omega arith))

pub returns-then-o-eq2-clause-file : goal.returns-then-o-eq2-clause-file
returns-then-o-eq2-clause-file c =
    let a = c.args in
    let o = c.in-Some.o in
    let k = c.in-Some.ensures in
    let s = c.source-c in
    let b = begun a.vl a.log a.first a.portions a.pn a.pd s.result.0 a.p.now o k s.ensures c.put_at.new.p c.put_at.ensures in
    let m = more a.vl a.log a.first a.portions a.pn a.pd s.result.0 a.p.now o k s.ensures 1 c.put_at.new.p c.put_at-then-o-eq2.new.p b c.put_at-then-o-eq2.ensures in
    worked _ _ _ _ _ _ o a.p.now _ k (m ∙ ap (λ (n : ℕ). pext_slots a.vl (size_at o.log) o.first o.pd (slot 32 (a.vl / 64) o.pn a.p.now) n a.p.now) (sym c.if-o-eq2.true))

pub returns-else-o-eq2-clause-file : goal.returns-else-o-eq2-clause-file
returns-else-o-eq2-clause-file c =
    let a = c.args in
    let o = c.in-Some.o in
    let k = c.in-Some.ensures in
    let s = c.source-c in
    let b = begun a.vl a.log a.first a.portions a.pn a.pd s.result.0 a.p.now o k s.ensures c.put_at.new.p c.put_at.ensures in
    let one : 1 ≡ o.portions = omega (arith, o.some, o.few, c.if-o-eq2.false) in
    worked _ _ _ _ _ _ o a.p.now _ k (b ∙ ap (λ (n : ℕ). pext_slots a.vl (size_at o.log) o.first o.pd (slot 32 (a.vl / 64) o.pn a.p.now) n a.p.now) one)
