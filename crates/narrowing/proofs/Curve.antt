-- The floor shift and the range, for any range and any shift: each is said of differences with one second number, where omega reads it.
use mathlib.Core.Path.{◌≡◌, sym, ap, ◌∙◌, subst}
use mathlib.Core.Bool.{Bool}
use Prim.Native.Nat.{ℕ, suc, ◌+◌, ◌-◌, ◌*◌, ◌/◌, ◌^◌, ◌≤◌, ◌<◌}
use native.Mathlib.Nat.{le-mul_of_pos_right, mul_comm}
use native.Mathlib.Omega.{arith}
use lib.Pow.{pow_pos, pow-add}
use lib.IntN.{ℤ, sub_ℕ}
use lib.Signed.{mag, ◌≤ℤ◌}
use Rattle.narrowing.specs.Narrowing.{term, shifted, within}
use Rattle.narrowing.proofs.Differences.{up, is_up, add_pos, shr_sub, le_of, of_le, among, among_cases, within_sub}

pub double : (k : ℕ) → 1 ≤ k → 2 ^ k ≡ 2 ^ (k - 1) * 2
double k h = let e : k ≡ (k - 1) + 1 = omega arith in ap (λ (n : ℕ). 2 ^ n) e ∙ pow-add 2 (k - 1) 1

-- a claim on whole numbers holds if it holds of differences: two elements, whose second number is m times that of three results
pub differences : (m : ℕ) → 0 < m → (P : ℤ → ℤ → ℤ → ℤ → ℤ → Type 0) → ((t l g a x y : ℕ) → P (sub_ℕ l t) (sub_ℕ g t) (sub_ℕ a t) (sub_ℕ x (m * t)) (sub_ℕ y (m * t))) → (lo hi a x y : ℤ) → P lo hi a x y
differences m some P f lo hi a x y =
    let t : ℕ = suc (mag lo + mag hi + mag a + mag x + mag y) in
    let b : t ≤ t * m = le-mul_of_pos_right t some in
    let c : t * m ≡ m * t = mul_comm t m in
    subst (λ z. P z hi a x y) (sym (is_up t lo (omega arith)))
    (subst (λ z. P (sub_ℕ (up t lo) t) z a x y) (sym (is_up t hi (omega arith)))
    (subst (λ z. P (sub_ℕ (up t lo) t) (sub_ℕ (up t hi) t) z x y) (sym (is_up t a (omega arith)))
    (subst (λ z. P (sub_ℕ (up t lo) t) (sub_ℕ (up t hi) t) (sub_ℕ (up t a) t) z y) (sym (is_up (m * t) x (omega arith)))
    (subst (λ z. P (sub_ℕ (up t lo) t) (sub_ℕ (up t hi) t) (sub_ℕ (up t a) t) (sub_ℕ (up (m * t) x) (m * t)) z) (sym (is_up (m * t) y (omega arith)))
    (f t (up t lo) (up t hi) (up t a) (up (m * t) x) (up (m * t) y))))))

-- the definitions, of differences
module _ (k t : ℕ) where
  pub shifted_is : (r : Bool) (x : ℕ) → shifted r k (sub_ℕ x (2 ^ k * t)) ≡ sub_ℕ ((x + term r k) / 2 ^ k) t
  unfolding shifted
  shifted_is r x = rw (add_pos x (2 ^ k * t) (term r k)) (shr_sub (2 ^ k) (x + term r k) t (pow_pos k))

  pub result_is : (r : Bool) (l g x : ℕ) → within (sub_ℕ l t) (sub_ℕ g t) (shifted r k (sub_ℕ x (2 ^ k * t))) ≡ sub_ℕ (among l g ((x + term r k) / 2 ^ k)) t
  result_is r l g x = ap (within (sub_ℕ l t) (sub_ℕ g t)) (shifted_is r x) ∙ within_sub l g ((x + term r k) / 2 ^ k) t

pub in_range : (lo hi q : ℤ) → lo ≤ℤ hi → (lo ≤ℤ within lo hi q) × (within lo hi q ≤ℤ hi)
in_range lo hi q =
    differences 1 (omega arith) (λ lo hi q x y. lo ≤ℤ hi → (lo ≤ℤ within lo hi q) × (within lo hi q ≤ℤ hi))
    (λ t l g q x y b.
    let b' = of_le l t g t b in
    let c : (l ≤ among l g q) × (among l g q ≤ g) = among_cases (λ n. (l ≤ n) × (n ≤ g)) l g q (λ u. (omega arith, omega arith)) (λ u v. (omega arith, omega arith)) (λ u v. (omega arith, omega arith)) in
    rw (within_sub l g q t) (le_of l t _ t (omega arith), le_of _ t g t (omega arith)))
    lo hi q q q
