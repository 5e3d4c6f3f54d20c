-- PEXT's portions in the file: one more slot set, and the file where the tests have answered; the counter is in a slot's low bytes.
use mathlib.Core.Path.{◌≡◌, sym, ap, ◌∙◌}
use mathlib.Core.Bool.{false}
use mathlib.Core.List.{List}
use Prim.Native.Nat.{ℕ, ◌+◌, ◌*◌, ◌/◌, ◌%◌, ◌≤◌}
use native.Mathlib.Numerals.{add-one}
use native.Mathlib.Omega.{arith}
use lib.ListN.{length, drop}
use lib.Seq.{take-take}
use Rattle.element.specs.Contents.{num, elem}
use Rattle.element.specs.Slots.{slot, set_slot}
use Rattle.element.proofs.Filling.{packed_length}
use Rattle.element.proofs.Slots.{reach, slot_part}
use Rattle.counter.specs.Portion.{portion_bit, portion_of}
use Rattle.element.specs.Units.{size_at}
use Rattle.pext.specs.Private.{Accepted}
use Rattle.pext.specs.declared.operands.Operands.{Operands}
use Rattle.pext.specs.Pext.{pext_of, pext_slots, pext_ready, pext_leaves}

pub portion_length : (vl size p c : ℕ) → length (portion_of vl size p c) ≡ vl / 64
unfolding portion_of
portion_length vl size p c = packed_length (portion_bit vl size p c) (vl / 64)

pub one_more : (vl size first pd n x : ℕ) (c f p q : List ℕ)
    → x ≡ elem 2 0 c
    → p ≡ pext_slots vl size first pd c n f
    → q ≡ set_slot 32 (vl / 64) ((pd + n) % 16) (portion_of vl size (first + n) x) p
    → q ≡ pext_slots vl size first pd c (n + 1) f
unfolding pext_slots pext_of
one_more vl size first pd n x c f p q ex ep eq = eq ∙ rw (ex, ep, add-one)

-- a slot's low sixteen bits are the same at any length
pub counter_low : (n k : ℕ) (f : List ℕ) → 2 ≤ n → 32 * k + n ≤ length f → elem 2 0 (slot 32 2 k f) ≡ elem 2 0 (slot 32 n k f)
unfolding elem
counter_low n k f h l =
    let rest = drop (32 * k) f in
    rw (← slot_part 32 2 k f (omega arith), ← slot_part 32 n k f l, reach (32 * k) 2, reach (32 * k) n) (ap num (take-take 2 2 rest (omega arith) ∙ sym (take-take 2 n rest h)))

-- the file as it is left, by any name of the operands
pub worked : (vl log first portions pn pd : ℕ) (o : Operands) (f q : List ℕ)
    → Accepted o (length f) vl log first portions pn pd
    → q ≡ pext_slots vl (size_at o.log) o.first o.pd (slot 32 (vl / 64) o.pn f) o.portions f
    → q ≡ pext_leaves vl (size_at log) first portions pn pd f
unfolding pext_leaves
worked vl log first portions pn pd o f q k h =
    rw k.ready (rw (k.log_is, k.first_is, k.portions_is, k.pn_is, k.pd_is) at h)

pub untouched : (vl size first portions pn pd : ℕ) (f : List ℕ)
    → pext_ready (length f) vl size first portions pn pd ≡ false
    → f ≡ pext_leaves vl size first portions pn pd f
unfolding pext_leaves
untouched vl size first portions pn pd f refused = rw refused
