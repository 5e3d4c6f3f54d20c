-- The unsigned classes as the code computes them, once over size and shift: what lies above `top`, and nothing else, rounds past the greatest
-- result; the low half is halved of one bit more than is kept.
use mathlib.Core.Path.{◌≡◌, refl, sym, ap, ◌∙◌}
use mathlib.Core.Bool.{Bool, true, false}
use Prim.Native.Nat.{ℕ, ◌+◌, ◌-◌, ◌*◌, ◌/◌, ◌%◌, ◌^◌, ◌≤◌, ◌<◌, min}
use native.Mathlib.Nat.{min-eq_left, min-eq_right, min-le_right, mod-eq_of_lt, mul_assoc, mul_comm, div-add-mod, mul-add-mod_self_left}
use native.Mathlib.Decide.{dec_lt}
use native.Mathlib.Omega.{arith}
use lib.Pow.{pow_pos, pow-add, pow_mono, shr_mono, ones_lt, ones_split, high}
use mir.Val.{bool_byte}
use Rattle.std.specs.Ordering.{nat_cmp, ord_min}
use Rattle.std.proofs.Common.{Ordering}
use Rattle.std.proofs.lemmas.Bool.Decides.{nat_tests}
use Rattle.narrowing.specs.Narrowing.{form, value, shifted, low as low_bits, stored}
use Rattle.narrowing.specs.Points.{narrowed}
use Rattle.narrowing.proofs.Stored.{unsigned_is}
use Rattle.narrow.specs.Private.{top_of, LowReady, UnsignedReady}
use Rattle.narrow.proofs.Computed.{one_shl}
use Rattle.narrow.proofs.Clamp.{term_le, powers, bit, half_term}

-- the type's order is that of the numbers
pub min_is : {S : Type 0} (value : S → ℕ) (cmp : S → S → Ordering) → ((x y : S) → cmp x y ≡ nat_cmp (value x) (value y)) → (x y m : S) → m ≡ ord_min cmp x y → value m ≡ min (value x) (value y)
min_is value cmp order x y m e = ap value e ∙ rw (order y x) (grind (arith, nat_tests))

module _ {x : ℕ} {r : Bool} {s k t h : ℕ} (p : UnsignedReady x r s k t h) where
  -- the bounds fit the element's bits, and their sum is all ones of s + k bits
  sum : t + h ≡ 2 ^ (s + k) - 1
  unfolding top_of
  sum =
      let a = powers s k p.sized.some p.sized.most in
      let b = term_le r k in
      let e = p.bounds.greatest in
      let f = p.bounds.rounding in
      omega arith

  fits : t + h < 2 ^ (2 * s)
  fits =
      let m = p.sized.most in
      let e : s + k ≤ 2 * s = omega arith in
      let l = pow_mono e in
      let q = pow_pos (s + k) in
      let n = sum in
      omega arith

  top_same : t % 2 ^ (2 * s) ≡ t
  top_same = let l = fits in let n : t < 2 ^ (2 * s) = omega arith in mod-eq_of_lt n

  term_same : h % 2 ^ (2 * s) ≡ h
  term_same = let l = fits in let n : h < 2 ^ (2 * s) = omega arith in mod-eq_of_lt n

  filled : (t + h) / 2 ^ k ≡ 2 ^ s - 1
  filled = ap (λ (n : ℕ). n / 2 ^ k) (sum ∙ ones_split s k) ∙ high (2 ^ s - 1) k (ones_lt k)

  result_is : narrowed (form true true) r s k x ≡ min ((x + h) / 2 ^ k) (2 ^ s - 1)
  unfolding form value
  result_is = unsigned_is r s k x ∙ rw p.bounds.rounding

  under : x ≤ t → (x + h) / 2 ^ k ≡ narrowed (form true true) r s k x
  under l =
      let o : x + h ≤ t + h = omega arith in
      let m : (x + h) / 2 ^ k ≤ 2 ^ s - 1 = rw filled at (shr_mono k o) in
      sym (result_is ∙ min-eq_left m)

  over_max : t < x → 2 ^ s - 1 ≡ narrowed (form true true) r s k x
  over_max l =
      let o : t + h ≤ x + h = omega arith in
      let m : 2 ^ s - 1 ≤ (x + h) / 2 ^ k = rw filled at (shr_mono k o) in
      sym (result_is ∙ min-eq_right m)

  -- cut to `top`
  over : t < x → (t + h) / 2 ^ k ≡ narrowed (form true true) r s k x
  over l = filled ∙ over_max l

  -- so is the lesser of x and `top`
  cut : (min x t + h) / 2 ^ k ≡ narrowed (form true true) r s k x
  cut = by (dec_lt t x)
    where
      by : Dec (t < x) → (min x t + h) / 2 ^ k ≡ narrowed (form true true) r s k x
      by (yes l) = let i : t ≤ x = omega arith in rw (min-eq_right i) (over l)
      by (no n) = let i : x ≤ t = omega arith in rw (min-eq_left i) (under i)

  -- what the code reads of them
  module _ {v b c m : ℕ} (ev : v ≡ x % 2 ^ (2 * s)) (eb : b ≡ t % 2 ^ (2 * s)) (ec : c ≡ h % 2 ^ (2 * s)) (em : m ≡ min v b) where
    lesser : m + c ≡ min x t + h
    lesser = rw (em, ev, eb, ec, mod-eq_of_lt p.fit, top_same, term_same)

    pub sum_fits : m + c < 2 ^ (2 * s)
    sum_fits = rw lesser (let l = fits in let n = min-le_right x t in omega arith)

    pub saturated_is : {y q n : ℕ} → y ≡ m + c → q ≡ y / 2 ^ k → n ≡ q → n ≡ narrowed (form true true) r s k x
    saturated_is ey eq en = en ∙ eq ∙ ap (λ (n : ℕ). n / 2 ^ k) (ey ∙ lesser) ∙ cut

-- ---- the low half

pub byte_bit : (r : Bool) → bool_byte r ≡ bit r
byte_bit false = refl
byte_bit true = refl

-- half of what is kept and one bit more
kept_low : (s g b : ℕ) → (g % 2 ^ (s + 1) + b) / 2 % 2 ^ s ≡ (g + b) / 2 % 2 ^ s
kept_low s g b =
    let e : 2 ^ (s + 1) ≡ 2 ^ s * 2 = pow-add 2 s 1 in
    let d = div-add-mod g (2 ^ (s + 1)) in
    let m : 2 ^ (s + 1) * (g / 2 ^ (s + 1)) ≡ 2 ^ s * (g / 2 ^ (s + 1)) * 2 = ap (λ (n : ℕ). n * (g / 2 ^ (s + 1))) e ∙ mul_assoc (2 ^ s) 2 (g / 2 ^ (s + 1)) ∙ ap (λ (n : ℕ). 2 ^ s * n) (mul_comm 2 (g / 2 ^ (s + 1))) ∙ sym (mul_assoc (2 ^ s) (g / 2 ^ (s + 1)) 2) in
    let h : (g + b) / 2 ≡ 2 ^ s * (g / 2 ^ (s + 1)) + (g % 2 ^ (s + 1) + b) / 2 = omega arith in
    sym (rw h (mul-add-mod_self_left (2 ^ s) (g / 2 ^ (s + 1)) ((g % 2 ^ (s + 1) + b) / 2)))

kept : (r : Bool) (s k x : ℕ) → 1 ≤ k → (x / 2 ^ (k - 1) % 2 ^ (s + 1) + bool_byte r) / 2 % 2 ^ s ≡ narrowed (form false true) r s k x
unfolding form value stored shifted low_bits
kept r s k x some = kept_low s (x / 2 ^ (k - 1)) (bool_byte r) ∙ rw (byte_bit r) (ap (λ (n : ℕ). n % 2 ^ s) (half_term r k x some))

-- with the numbers 2 to the powers s + 1 and s as the code has them
pub low_is : {x s k h i : ℕ} (r : Bool) → LowReady x s k → {v u g : ℕ} → h ≡ s → i ≡ s → v ≡ x % 2 ^ (2 * s) → u ≡ v / 2 ^ (k - 1) → g ≡ u → (g % ((2 * 2 ^ h) % 2 ^ 64) + bool_byte r) / 2 % ((1 * 2 ^ i) % 2 ^ 64) ≡ narrowed (form false true) r s k x
low_is {x} {s} {k} r p eh ei ev eu eg =
    let m = p.sized.size in
    let l : s + 1 < 64 = omega arith in
    let i : s < 64 = omega arith in
    let d : 2 * 2 ^ s ≡ 1 * 2 ^ (s + 1) = omega (arith, pow-add 2 s 1) in
    rw (eh, ei, one_shl s i, d, one_shl (s + 1) l, eg, eu, ev, mod-eq_of_lt p.fit) (kept r s k x p.sized.some)
