-- Sixty-four bits of the expansion are those before the edge, or behind it, at the places of its size; at another's places too they are a sample: once over the length, the two sizes and the start.
use mathlib.Core.Path.{◌≡◌, sym, ap, ◌∙◌}
use mathlib.Core.Bool.{Bool, false, ◌&&◌, and_comm}
use Prim.Native.Nat.{ℕ, ◌+◌, ◌-◌, ◌*◌, ◌/◌, ◌%◌, ◌^◌, ◌≤◌, ◌<◌, max}
use native.Mathlib.Nat.{div-lt_iff_lt-mul}
use native.Mathlib.Decide.{dec_lt}
use native.Mathlib.Omega.{arith}
use lib.Bits.{bit_and, and_zero_l}
use lib.Dec.{eqb, ltb, eqb→eq}
use lib.Pow.{pow_pos}
use borrow.Author.Tests.{lt-ltb, le-ltb, eq-eqb, ne_eqb}
use Rattle.element.specs.Contents.{gather}
use Rattle.element.specs.Size.{zeros}
use Rattle.element.proofs.Units.{unit, low_bits, unit_of_lem}
use Rattle.element.proofs.Digits.{and_gather}
use Rattle.element.proofs.Masked.{masked_once}
use Rattle.element.proofs.Below.{below}
use Rattle.logic.specs.Every.{all}
use Rattle.element.proofs.Filling.{gather_same}
use Rattle.counter.specs.Counter.{count_of, inverts, flipped, element_of, expansion_bit}
use Rattle.counter.specs.Private.{mask_of, every_place, at_places, sampled_bit}
use Rattle.counter.proofs.Lengths.{few_zeros, size_said}

lt_div : (x v n : ℕ) → 0 < v → ltb (x / v) n ≡ ltb x (n * v)
lt_div x v n h = go (dec_lt x (n * v))
  where
    go : Dec (x < n * v) → ltb (x / v) n ≡ ltb x (n * v)
    go (yes p) = lt-ltb (x / v) n ((div-lt_iff_lt-mul h).1 p) ∙ sym (lt-ltb x (n * v) p)
    go (no q) = le-ltb (x / v) n (other (dec_lt (x / v) n)) ∙ sym (le-ltb x (n * v) (omega arith))
      where
        other : Dec (x / v < n) → n ≤ x / v
        other (yes r) = absurd (q ((div-lt_iff_lt-mul h).0 r))
        other (no r) = omega arith

lt_beyond : (m j t : ℕ) → ltb (m + j) t ≡ ltb j (t - m)
lt_beyond m j t = go (dec_lt (m + j) t)
  where
    go : Dec (m + j < t) → ltb (m + j) t ≡ ltb j (t - m)
    go (yes p) = lt-ltb (m + j) t p ∙ sym (lt-ltb j (t - m) (omega arith))
    go (no q) = le-ltb (m + j) t (omega arith) ∙ sym (le-ltb j (t - m) (omega arith))

module _ (vl c from : ℕ) (whole : from % 8 ≡ 0) (ne : c % 16 ≡ 0 → ⊥) where
  bit_at : (b : ℕ) → (flipped (inverts c) (ltb b (count_of vl c * 2 ^ zeros c - from)) && eqb (b % 2 ^ zeros c) 0) ≡ expansion_bit vl c (from + b)
  unfolding expansion_bit element_of
  bit_at b =
      and_comm (flipped (inverts c) (ltb b (count_of vl c * 2 ^ zeros c - from))) (eqb (b % 2 ^ zeros c) 0)
      ∙ sym (rw (ne_eqb (c % 16) 0 ne, unit_of_lem (size_said c ne), low_bits (2 ^ zeros c) from b (unit (zeros c) (few_zeros c ne)) whole, lt_div (from + b) (2 ^ zeros c) (count_of vl c) (pow_pos (zeros c)), lt_beyond from b (count_of vl c * 2 ^ zeros c)))

  -- x: the bits before the edge, or behind it
  pub mask_is : (inv : Bool) (z d x : ℕ)
      → inverts c ≡ inv
      → z ≡ zeros c
      → d ≡ count_of vl c * 2 ^ zeros c - from
      → x ≡ gather (λ b. flipped inv (ltb b d)) 0 64
      → at_places x z ≡ mask_of vl c from
  unfolding mask_of
  mask_is inv z d x ei ez ed ex =
      rw (ex, ed, ez, ← ei)
      (and_gather (λ b. flipped (inverts c) (ltb b (count_of vl c * 2 ^ zeros c - from))) (λ b. eqb (b % 2 ^ zeros c) 0) 64 0
      ∙ gather_same (λ b. flipped (inverts c) (ltb b (count_of vl c * 2 ^ zeros c - from)) && eqb (b % 2 ^ zeros c) 0) (λ b. expansion_bit vl c (from + b)) 64 0 0 (λ j h. bit_at (0 + j)))

-- a counter that says no size has no true bit
pub no_mask : (vl c from : ℕ) → c % 16 ≡ 0 → at_places 0 0 ≡ mask_of vl c from
unfolding gather mask_of expansion_bit
no_mask vl c from e =
    and_zero_l (every_place 0)
    ∙ gather_same (λ (b : ℕ). false) (λ b. expansion_bit vl c (from + b)) 64 0 0 (λ j l. sym (rw (eq-eqb (c % 16) 0 e)))

-- of two sizes the larger's places are those of both: a test over the sizes
nested : ℕ → ℕ → Bool
unfolding gather
nested z s = eqb (bit_and (every_place z) (every_place s)) (every_place (max z s))

pub both_sizes : (x z s : ℕ) → z < 4 → s < 4 → at_places x (max z s) ≡ at_places (at_places x z) s
unfolding nested gather
both_sizes x z s hz hs =
    let e = eqb→eq (bit_and (every_place z) (every_place s)) (every_place (max z s)) (below (nested z) 4 (below (λ (y : ℕ). all (nested y) 4) 4 tt z hz) s hs) in
    ap (bit_and x) (sym e) ∙ masked_once x (every_place z) (every_place s)

module _ (vl c s from : ℕ) where
  pub sample_is : at_places (mask_of vl c from) s ≡ gather (sampled_bit vl c s from) 0 64
  unfolding mask_of sampled_bit
  sample_is = and_gather (λ b. expansion_bit vl c (from + b)) (λ b. eqb (b % 2 ^ s) 0) 64 0

  -- a sample that starts a bytes on is the sample from there
  pub moved : s < 4 → (a : ℕ) → gather (sampled_bit vl c s (from + 8 * a)) 0 64 ≡ gather (sampled_bit vl c s from) (8 * a) 64
  unfolding sampled_bit
  moved small a =
      gather_same (sampled_bit vl c s (from + 8 * a)) (sampled_bit vl c s from) 64 0 (8 * a)
      (λ j h. let o : 0 + j ≡ j = omega arith in let e : from + 8 * a + j ≡ from + (8 * a + j) = omega arith in rw (o, e, low_bits (2 ^ s) (8 * a) j (unit s small) (omega arith)))
