-- Clamping first: a signed element clamped to its bounds, rounded and shifted, is the result. In natural numbers, and then of differences.
use mathlib.Core.Path.{◌≡◌, refl, sym, ap, ◌∙◌}
use mathlib.Core.Bool.{Bool, true, false}
use mathlib.Core.Logic.{◌⊎◌, inl, inr, ⊎_elim}
use Prim.Native.Nat.{ℕ, suc, ◌+◌, ◌-◌, ◌*◌, ◌/◌, ◌^◌, ◌≤◌, ◌<◌, min}
use native.Mathlib.Nat.{mul-suc, mul-zero, mul-one, mul_assoc, mul-sub, mul_comm, div-lt_iff_lt-mul, le-div_iff_mul-le, mul-le-mul_left, mul-div_right, mul-add, mul-add-div, div-eq_of_lt, le-mul_of_pos_right, min-eq_left, min-eq_right, div-div-eq-div-mul, add-div_right}
use native.Mathlib.Decide.{dec_lt}
use native.Mathlib.Omega.{arith}
use lib.Pow.{pow_pos, pow-add, pow-lt}
use lib.IntN.{ℤ, pos, negsuc, neg_ℤ, sub_ℕ, ◌+ℤ◌}
use lib.Signed.{mag, shr_z}
use borrow.Author.Tests.{lt-ltb, le-ltb}
use Rattle.narrowing.specs.Narrowing.{Saturating, signed_to_unsigned, signed_to_signed, term, shifted, least, greatest, within, result}
use Rattle.narrowing.proofs.Differences.{up, is_up, as_pos, sub_same, neg_is, add_pos, shr_sub, among, within_sub}
use Rattle.narrowing.proofs.Curve.{double, differences, shifted_is}
use Rattle.narrow.specs.Private.{below, above}

-- ---- in natural numbers: l and g the result's range, a and b the element's bounds, h the term

module _ (m h : ℕ) (some : 0 < m) where
  quot_lt : (x l : ℕ) → x + h < m * l → (x + h) / m < l
  quot_lt x l b = (div-lt_iff_lt-mul some).1 (rw (mul_comm l m) b)

  quot_le : (x l : ℕ) → m * l ≤ x + h → l ≤ (x + h) / m
  quot_le x l b = (le-div_iff_mul-le some).1 (rw (mul_comm l m) b)

  -- the second case of low and of high is the bound's cap, which no element passes
  clamped : (l g a b x : ℕ)
      → m * l ≤ a + h
      → (a + h ≡ m * l) ⊎ (a ≤ x)
      → b + h < m * g + m
      → (suc (b + h) ≡ m * g + m) ⊎ (x ≤ b)
      → among l g ((x + h) / m) ≡ (among a b x + h) / m
  clamped l g a b x la low bg high = by (dec_lt x a) (dec_lt b x)
    where
      by : Dec (x < a) → Dec (b < x) → among l g ((x + h) / m) ≡ (among a b x + h) / m
      by (yes d) o =
          let e : a + h ≡ m * l = ⊎_elim (λ e. e) (λ f. absurd (omega arith)) low in
          let k : (x + h) / m < l = quot_lt x l (omega arith) in
          rw (lt-ltb ((x + h) / m) l k, lt-ltb x a d, e, mul-div_right l some)
      by (no n) (yes d) =
          let e : suc (b + h) ≡ m * g + m = ⊎_elim (λ e. e) (λ f. absurd (omega arith)) high in
          let i : a ≤ x = omega arith in
          let j : l ≤ (x + h) / m = quot_le x l (omega arith) in
          let k : suc g ≤ (x + h) / m = quot_le x (suc g) (rw mul-suc (omega arith)) in
          let f : b + h ≡ m * g + (m - 1) = omega arith in
          let u : m - 1 < m = omega arith in
          rw (le-ltb ((x + h) / m) l j, lt-ltb g ((x + h) / m) k, le-ltb x a i, lt-ltb b x d, f, mul-add-div some g (m - 1), div-eq_of_lt u) (omega arith)
      by (no n) (no o) =
          let i : a ≤ x = omega arith in
          let v : x ≤ b = omega arith in
          let j : l ≤ (x + h) / m = quot_le x l (omega arith) in
          let s : (x + h) / m < suc g = quot_lt x (suc g) (rw mul-suc (omega arith)) in
          let k : (x + h) / m ≤ g = omega arith in
          rw (le-ltb ((x + h) / m) l j, le-ltb g ((x + h) / m) k, le-ltb x a i, le-ltb b x v)

-- ---- in whole numbers: the range -lw to gw, the bounds -bl to ab, and elements of magnitude below top

neg_at : (n t : ℕ) → n ≤ t → neg_ℤ (pos n) ≡ sub_ℕ (t - n) t
neg_at n t h = neg_is n ∙ sub_same 0 n (t - n) t (omega arith)

pos_at : (n t : ℕ) → pos n ≡ sub_ℕ (n + t) t
pos_at n t = sym (as_pos (n + t) t n refl)

up_from : (top t : ℕ) (z : ℤ) → mag z < top → top ≤ t → (t - top ≤ up t z) × (up t z < t + top)
up_from top t (pos n) h k = (omega arith, omega arith)
up_from top t (negsuc n) h k = (omega arith, omega arith)

module _ (r : Bool) (k lw gw bl ab top : ℕ) (lb : bl ≤ 2 ^ k * lw + term r k) (low : (bl ≡ 2 ^ k * lw + term r k) ⊎ (bl ≡ top)) (bg : ab + term r k < 2 ^ k * gw + 2 ^ k) (high : (suc (ab + term r k) ≡ 2 ^ k * gw + 2 ^ k) ⊎ (suc ab ≡ top)) (x : ℤ) (fits : mag x < top) where
  clamps : within (neg_ℤ (pos lw)) (pos gw) (shifted r k x) ≡ shifted r k (within (neg_ℤ (pos bl)) (pos ab) x)
  clamps =
      let t : ℕ = top + lw + bl in
      let p = pow_pos k in
      let u : t ≤ 2 ^ k * t = rw (mul_comm (2 ^ k) t) (le-mul_of_pos_right t p) in
      let e : x ≡ sub_ℕ (up (2 ^ k * t) x) (2 ^ k * t) = is_up (2 ^ k * t) x (omega arith) in
      let f = up_from top (2 ^ k * t) x fits (omega arith) in
      let d = mul-sub (2 ^ k) t lw in
      let j : lw ≤ t = omega arith in
      let i = mul-le-mul_left (2 ^ k) j in
      let mg : 2 ^ k * (gw + t) ≡ 2 ^ k * gw + 2 ^ k * t = mul-add (2 ^ k) gw t in
      let n = clamped (2 ^ k) (term r k) p (t - lw) (gw + t) (2 ^ k * t - bl) (ab + 2 ^ k * t) (up (2 ^ k * t) x) (omega arith)
      (⊎_elim (λ w. inl (omega arith)) (λ w. inr (omega arith)) low) (omega arith) (⊎_elim (λ w. inl (omega arith)) (λ w. inr (omega arith)) high) in
      let sh : shifted r k x ≡ sub_ℕ ((up (2 ^ k * t) x + term r k) / 2 ^ k) t = ap (shifted r k) e ∙ shifted_is k t r _ in
      let wx : within (neg_ℤ (pos bl)) (pos ab) x ≡ sub_ℕ (among (2 ^ k * t - bl) (ab + 2 ^ k * t) (up (2 ^ k * t) x)) (2 ^ k * t) =
      ap (λ (z : ℤ). within z (pos ab) x) (neg_at bl (2 ^ k * t) (omega arith)) ∙ ap (λ (z : ℤ). within (sub_ℕ (2 ^ k * t - bl) (2 ^ k * t)) z x) (pos_at ab (2 ^ k * t)) ∙ ap (λ (z : ℤ). within (sub_ℕ (2 ^ k * t - bl) (2 ^ k * t)) (sub_ℕ (ab + 2 ^ k * t) (2 ^ k * t)) z) e ∙ within_sub _ _ _ (2 ^ k * t) in
      ap (λ (z : ℤ). within z (pos gw) (shifted r k x)) (neg_at lw t j)
      ∙ ap (λ (z : ℤ). within (sub_ℕ (t - lw) t) z (shifted r k x)) (pos_at gw t)
      ∙ ap (λ (z : ℤ). within (sub_ℕ (t - lw) t) (sub_ℕ (gw + t) t) z) sh
      ∙ within_sub _ _ _ t
      ∙ ap (λ (n : ℕ). sub_ℕ n t) n
      ∙ sym (ap (shifted r k) wx ∙ shifted_is k t r _)

-- ---- the two signed forms, with the bounds of specs/

pub term_le : (r : Bool) (k : ℕ) → term r k ≤ 2 ^ (k - 1)
unfolding term
term_le false k = omega arith
term_le true k = omega arith

-- op set saturates to the signed range
abbrev pub signed_form : Bool → Saturating
signed_form false = signed_to_unsigned
signed_form true = signed_to_signed

-- the powers by which every bound is one of sums
pub record Powers (s k : ℕ) : Type 0 where
  pub twice : 2 ^ (s + k) ≡ 2 ^ (s - 1 + k) * 2
  pub split : 2 ^ k * 2 ^ s ≡ 2 ^ (s + k)
  pub split_signed : 2 ^ k * 2 ^ (s - 1) ≡ 2 ^ (s - 1 + k)
  pub half : 2 ^ (k - 1) < 2 ^ (s - 1 + k)
  pub some : 1 ≤ 2 ^ s
  pub some_signed : 1 ≤ 2 ^ (s - 1)

pub powers : (s k : ℕ) → 1 ≤ k → k ≤ s → Powers s k
powers s k some most =
    let e : s + k - 1 ≡ s - 1 + k = omega arith in
    let f : k - 1 < s - 1 + k = omega arith in
    record {
      twice = double (s + k) (omega arith) ∙ ap (λ (n : ℕ). 2 ^ n * 2) e;
      split = mul_comm (2 ^ k) (2 ^ s) ∙ sym (pow-add 2 s k);
      split_signed = mul_comm (2 ^ k) (2 ^ (s - 1)) ∙ sym (pow-add 2 (s - 1) k);
      half = pow-lt f;
      some = pow_pos s;
      some_signed = pow_pos (s - 1);
    }

-- a bound and its cap
capped : (a c : ℕ) → (min a c ≤ a) × ((min a c ≡ a) ⊎ (min a c ≡ c))
capped a c = by (dec_lt a c)
  where
    by : Dec (a < c) → (min a c ≤ a) × ((min a c ≡ a) ⊎ (min a c ≡ c))
    by (yes h) = let l : a ≤ c = omega arith in rw (min-eq_left l) (omega arith, inl refl)
    by (no n) = let l : c ≤ a = omega arith in rw (min-eq_right l) (l, inr refl)

module _ (r : Bool) (s k : ℕ) (some : 1 ≤ k) (most : k ≤ s) where
  pub clamp_first : (op : Bool) (x : ℤ) → mag x < 2 ^ (2 * s - 1) → result (signed_form op) r s k x ≡ shifted r k (within (neg_ℤ (pos (below op r s k))) (pos (above op r s k)) x)
  unfolding result least greatest below above
  clamp_first false x h =
      let t = term_le r k in
      let p = powers s k some most in
      let top = pow_pos (2 * s - 1) in
      let c = capped (2 ^ (s + k) - 1 - term r k) (2 ^ (2 * s - 1) - 1) in
      let g : 2 ^ k * (2 ^ s - 1) ≡ 2 ^ k * 2 ^ s - 2 ^ k = mul-sub (2 ^ k) (2 ^ s) 1 ∙ ap (λ (n : ℕ). 2 ^ k * 2 ^ s - n) (mul-one (2 ^ k)) in
      let d = mul-le-mul_left (2 ^ k) p.some in
      let z = mul-zero (2 ^ k) in
      let o = mul-one (2 ^ k) in
      clamps r k 0 (2 ^ s - 1) (term r k) (min (2 ^ (s + k) - 1 - term r k) (2 ^ (2 * s - 1) - 1)) (2 ^ (2 * s - 1))
      (omega arith) (inl (omega arith)) (omega arith) (⊎_elim (λ e. inl (omega arith)) (λ e. inr (omega arith)) c.1) x h
  clamp_first true x h =
      let t = term_le r k in
      let p = powers s k some most in
      let c = capped (2 ^ (s - 1 + k) + term r k) (2 ^ (2 * s - 1)) in
      let g : 2 ^ k * (2 ^ (s - 1) - 1) ≡ 2 ^ k * 2 ^ (s - 1) - 2 ^ k = mul-sub (2 ^ k) (2 ^ (s - 1)) 1 ∙ ap (λ (n : ℕ). 2 ^ k * 2 ^ (s - 1) - n) (mul-one (2 ^ k)) in
      let d = mul-le-mul_left (2 ^ k) p.some_signed in
      let o = mul-one (2 ^ k) in
      clamps r k (2 ^ (s - 1)) (2 ^ (s - 1) - 1) (min (2 ^ (s - 1 + k) + term r k) (2 ^ (2 * s - 1))) (2 ^ (s - 1 + k) - 1 - term r k) (2 ^ (2 * s - 1))
      (omega arith) (⊎_elim (λ e. inl (omega arith)) (λ e. inr (omega arith)) c.1) (omega arith) (inl (omega arith)) x h

-- ---- halved in the end: the term is then one bit

abbrev pub bit : Bool → ℕ
bit false = 0
bit true = 1

pub half_term : (r : Bool) (k x : ℕ) → 1 ≤ k → (x / 2 ^ (k - 1) + bit r) / 2 ≡ (x + term r k) / 2 ^ k
unfolding term
half_term false k x h =
    let z : x / 2 ^ (k - 1) + 0 ≡ x / 2 ^ (k - 1) = omega arith in
    let y : x + 0 ≡ x = omega arith in
    rw (z, y, double k h) (div-div-eq-div-mul x (2 ^ (k - 1)) 2)
half_term true k x h = rw (← add-div_right x (pow_pos (k - 1)), double k h) (div-div-eq-div-mul (x + 2 ^ (k - 1)) (2 ^ (k - 1)) 2)

pub halved : (r : Bool) (k : ℕ) (y : ℤ) → 1 ≤ k → shr_z (shr_z y (2 ^ (k - 1)) +ℤ pos (bit r)) 2 ≡ shifted r k y
halved r k y some =
    differences (2 ^ k) (pow_pos k) (λ lo hi a x y. shr_z (shr_z x (2 ^ (k - 1)) +ℤ pos (bit r)) 2 ≡ shifted r k x)
    (λ t l g a x y.
    let e : 2 ^ k * t ≡ 2 ^ (k - 1) * (2 * t) = ap (λ (n : ℕ). n * t) (double k some) ∙ mul_assoc (2 ^ (k - 1)) 2 t in
    ap (λ (n : ℕ). shr_z (shr_z (sub_ℕ x n) (2 ^ (k - 1)) +ℤ pos (bit r)) 2) e
    ∙ ap (λ (z : ℤ). shr_z (z +ℤ pos (bit r)) 2) (shr_sub (2 ^ (k - 1)) x (2 * t) (pow_pos (k - 1)))
    ∙ ap (λ (z : ℤ). shr_z z 2) (add_pos (x / 2 ^ (k - 1)) (2 * t) (bit r))
    ∙ shr_sub 2 (x / 2 ^ (k - 1) + bit r) t (omega arith)
    ∙ ap (λ (n : ℕ). sub_ℕ n t) (half_term r k x some)
    ∙ sym (shifted_is k t r x))
    y y y y y

-- what is halved has at most twice the magnitude, and one
pub mag_twice : (v : ℤ) → mag v ≤ 2 * mag (shr_z v 2) + 1
mag_twice (pos n) = omega arith
mag_twice (negsuc n) = omega arith
