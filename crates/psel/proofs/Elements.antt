-- PSEL byte by byte is all of Pn or zeros, and the chosen element's bit lies in Pm: once over the length and the size.
use mathlib.Core.Path.{◌≡◌, refl, sym, ◌∙◌}
use mathlib.Core.Bool.{Bool, true, false}
use mathlib.Core.List.{List}
use Prim.Native.Nat.{ℕ, zero, suc, ◌+◌, ◌*◌, ◌/◌, ◌%◌, ◌^◌, ◌≤◌, ◌<◌}
use native.Mathlib.Nat.{mod-eq_of_lt}
use native.Mathlib.Omega.{arith}
use lib.Bits.{bit_and, and_zero_r, and_mask}
use lib.ListN.{length, take, drop, get_or, replicate}
use Rattle.std.proofs.Math.ListN.{get_or-replicate}
use lib.Pow.{pow_pos}
use lib.Seq.{take-take, take-suc, take_all}
use Rattle.setting.specs.Allowed.{length_allowed}
use Rattle.part.proofs.Lengths.{lengths_of}
use Rattle.logic.specs.Pick.{pick}
use Rattle.element.specs.Contents.{bytes, fill, gather, octet, packed}
use Rattle.element.proofs.Filling.{turn, same, packed_length}
use Rattle.element.specs.Slots.{slot}
use Rattle.element.proofs.Slots.{reach, slot_part}
use Rattle.element.specs.Units.{size_at}
use Rattle.element.proofs.Units.{unit, whole, unit_of_lem, at_log}
use Rattle.index.specs.Index.{index_of, unit_of, has_unit, no_unit}
use Rattle.index.proofs.Ready.{has, index_below}
use Rattle.psel.specs.Psel.{value_of, psel_of}

module _ (vl z : ℕ) (small : z < 4) (allowed : length_allowed vl ≡ true) where
  -- an element's bit lies in the register
  inside : (i : ℕ) → i < vl / 8 / 2 ^ z → i * 2 ^ z < 8 * (vl / 64)
  inside i h =
      let l = lengths_of vl allowed in
      let t = turn i (vl / 8 / 2 ^ z) (2 ^ z) h in
      let w = whole (2 ^ z) (vl / 8) (unit z small) (omega arith) in
      let p = pow_pos z in omega arith

  -- the unit's index shifted by z is the chosen element's bit
  pub chosen_bit : (w offset : ℕ)
      → (((pick (has_unit vl (size_at z)) (unit_of vl (size_at z) w offset) no_unit).index * 2 ^ z) % 2 ^ 32 ≡ index_of vl (size_at z) (w + offset) * (size_at z / 8))
      × (index_of vl (size_at z) (w + offset) * (size_at z / 8) < 8 * (vl / 64))
  chosen_bit w offset =
      let l = lengths_of vl allowed in
      let h = inside (index_of vl (size_at z) (w + offset)) (index_below vl z (w + offset) small allowed) in
      rw (unit_of_lem (at_log z small), has vl z small allowed) (mod-eq_of_lt (omega (arith, h)), h)

-- of a slot the low bytes are the slot's own
pub slot_low : (size n m k : ℕ) (f : List ℕ) → n ≤ m → size * k + m ≤ length f → take n (slot size m k f) ≡ slot size n k f
slot_low size n m k f l h =
    rw (← slot_part size m k f h, ← slot_part size n k f (omega arith), reach (size * k) m, reach (size * k) n) (take-take n m (drop (size * k) f) l)

pub psel_length : (vl size sum : ℕ) (pn pm : List ℕ) → length pn ≡ vl / 64 → length (psel_of vl size sum pn pm) ≡ vl / 64
unfolding psel_of
psel_length vl size sum pn pm l = pick_length (value_of vl size sum pm)
  where
    pick_length : (v : Bool) → length (pick v pn (packed (λ b. false) (vl / 64))) ≡ vl / 64
    pick_length true = l
    pick_length false = packed_length (λ b. false) (vl / 64)

-- the first n bytes, one by one
taken : (s : List ℕ) → ((k : ℕ) → get_or s k 0 < 256) → (n : ℕ) → n ≤ length s → fill (λ k. get_or s k 0) 1 n ≡ take n s
unfolding fill bytes
taken s small zero h = refl
taken s small (suc n) h = rw (taken s small n (omega arith), mod-eq_of_lt (small n)) (sym (take-suc s n 0 (omega arith)))

-- under 255 a byte stays, under 0 nothing of it does
pub all_or_none : (s : List ℕ) → ((k : ℕ) → get_or s k 0 < 256) → (n m : ℕ) (v : Bool) → length s ≡ n → m ≡ pick v 255 0
    → fill (λ k. bit_and (get_or s k 0) m) 1 n ≡ pick v s (packed (λ b. false) n)
unfolding packed octet gather
all_or_none s small n m true l e =
    same (λ k. bit_and (get_or s k 0) m) (λ k. get_or s k 0) 1 n (λ k h. rw e (and_mask (get_or s k 0) 8 ∙ mod-eq_of_lt (small k)))
    ∙ taken s small n (omega arith) ∙ take_all n s (omega arith)
all_or_none s small n m false l e = same (λ k. bit_and (get_or s k 0) m) (octet (λ b. false)) 1 n (λ k h. rw e (and_zero_r (get_or s k 0)))

-- the same under a pattern of as many bytes as a register has
pub by_pattern : (s : List ℕ) → ((k : ℕ) → get_or s k 0 < 256) → (n : ℕ) (ms : List ℕ) (v : Bool) → length s ≡ n → n ≤ 32 → ms ≡ replicate 32 (pick v 255 0)
    → fill (λ k. bit_and (get_or s k 0) (get_or ms k 0)) 1 n ≡ pick v s (packed (λ b. false) n)
by_pattern s small n ms v l r e =
    same (λ k. bit_and (get_or s k 0) (get_or ms k 0)) (λ k. bit_and (get_or s k 0) (pick v 255 0)) 1 n (λ k h. rw (e, get_or-replicate {A = ℕ} 32 k (pick v 255 0) 0 (omega arith)) refl)
    ∙ all_or_none s small n (pick v 255 0) v l refl
