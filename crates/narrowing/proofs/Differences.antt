-- Every whole number is a difference of two natural ones, and so each question on whole numbers is one that omega reads.
use mathlib.Core.Path.{◌≡◌, refl, sym, ap, ◌∙◌}
use mathlib.Core.Bool.{Bool, true, false, cond}
use Prim.Native.Nat.{ℕ, zero, suc, ◌+◌, ◌-◌, ◌*◌, ◌/◌, ◌%◌, ◌≤◌, ◌<◌}
use native.Mathlib.Nat.{mul-suc, add-mul-div_left, div-add-mod, mod-lt, mul-le-mul_left, div-eq_of_lt, mul-add-div, mul-add}
use native.Mathlib.Decide.{dec_lt}
use native.Mathlib.Omega.{arith}
use lib.Dec.{ltb}
use lib.IntN.{ℤ, pos, negsuc, neg_ℤ, sub_ℕ, ◌+ℤ◌, ◌-ℤ◌}
use lib.Signed.{shr_z, mag, lt_z, lt_z_yes, lt_z_no, clash_ℤ, ◌≤ℤ◌, ◌<ℤ◌}
use Rattle.narrowing.specs.Narrowing.{within}
use borrow.Author.Tests.{lt-ltb, le-ltb}

-- ---- a - b by its sign

pub sub_ge : (a b : ℕ) → b ≤ a → sub_ℕ a b ≡ pos (a - b)
sub_ge a b h = simp (le-ltb a b h)

pub sub_lt : (a b : ℕ) → a < b → sub_ℕ a b ≡ negsuc (b - suc a)
sub_lt a b h = simp (lt-ltb a b h)

by_sign : (P : ℤ → Type 0) (a b : ℕ) → Dec (a < b) → (a < b → P (negsuc (b - suc a))) → (b ≤ a → P (pos (a - b))) → P (sub_ℕ a b)
by_sign P a b (yes h) f g = rw (sub_lt a b h) (f h)
by_sign P a b (no n) f g = let h : b ≤ a = omega arith in rw (sub_ge a b h) (g h)

-- two ways to say a number by its sign
pub as_neg : (a b n : ℕ) → a + suc n ≡ b → sub_ℕ a b ≡ negsuc n
as_neg a b n e = sub_lt a b (omega arith) ∙ ap negsuc (omega arith)

pub as_pos : (a b n : ℕ) → a ≡ n + b → sub_ℕ a b ≡ pos n
as_pos a b n e = sub_ge a b (omega arith) ∙ ap pos (omega arith)

pub sub_same : (a b c d : ℕ) → a + d ≡ c + b → sub_ℕ a b ≡ sub_ℕ c d
sub_same a b c d e = by_sign (λ z. z ≡ sub_ℕ c d) a b (dec_lt a b) (λ h. sym (as_neg c d (b - suc a) (omega arith))) (λ h. sym (as_pos c d (a - b) (omega arith)))

-- ---- every number is such a difference, at every second number that is large enough

abbrev pub up : ℕ → ℤ → ℕ
up t (pos n) = n + t
up t (negsuc n) = t - suc n

pub is_up : (t : ℕ) (z : ℤ) → mag z < t → z ≡ sub_ℕ (up t z) t
is_up t (pos n) h = sym (as_pos (n + t) t n refl)
is_up t (negsuc n) h = sym (as_neg (t - suc n) t n (omega arith))

-- ---- operations

pub neg_is : (n : ℕ) → neg_ℤ (pos n) ≡ sub_ℕ 0 n
neg_is zero = refl
neg_is (suc n) = sym (as_neg 0 (suc n) n (omega arith))

pub neg_sub : (a b : ℕ) → neg_ℤ (sub_ℕ a b) ≡ sub_ℕ b a
neg_sub a b = by_sign (λ z. neg_ℤ z ≡ sub_ℕ b a) a b (dec_lt a b) (λ h. sym (as_pos b a (suc (b - suc a)) (omega arith))) (λ h. neg_is (a - b) ∙ sub_same 0 (a - b) b a (omega arith))

pub add_sub : (a b c d : ℕ) → sub_ℕ a b +ℤ sub_ℕ c d ≡ sub_ℕ (a + c) (b + d)
add_sub a b c d =
    by_sign
    (λ z. z +ℤ sub_ℕ c d ≡ sub_ℕ (a + c) (b + d))
    a
    b
    (dec_lt a b)
    (λ h. by_sign (λ z. negsuc (b - suc a) +ℤ z ≡ sub_ℕ (a + c) (b + d)) c d (dec_lt c d) (λ k. sym (as_neg (a + c) (b + d) (suc (b - suc a + (d - suc c))) (omega arith))) (λ k. sub_same (c - d) (suc (b - suc a)) (a + c) (b + d) (omega arith)))
    (λ h. by_sign (λ z. pos (a - b) +ℤ z ≡ sub_ℕ (a + c) (b + d)) c d (dec_lt c d) (λ k. sub_same (a - b) (suc (d - suc c)) (a + c) (b + d) (omega arith)) (λ k. sym (as_pos (a + c) (b + d) (a - b + (c - d)) (omega arith))))

pub add_pos : (a b c : ℕ) → sub_ℕ a b +ℤ pos c ≡ sub_ℕ (a + c) b
add_pos a b c = by_sign (λ z. z +ℤ pos c ≡ sub_ℕ (a + c) b) a b (dec_lt a b) (λ h. sub_same c (suc (b - suc a)) (a + c) b (omega arith)) (λ h. sym (as_pos (a + c) b (a - b + c) (omega arith)))

pub take_sub : (a b c d : ℕ) → sub_ℕ a b -ℤ sub_ℕ c d ≡ sub_ℕ (a + d) (b + c)
take_sub a b c d = ap (λ (z : ℤ). sub_ℕ a b +ℤ z) (neg_sub c d) ∙ add_sub a b d c

pub shr_sub : (m a t : ℕ) → 0 < m → shr_z (sub_ℕ a (m * t)) m ≡ sub_ℕ (a / m) t
shr_sub m a t h =
    by_sign
    (λ z. shr_z z m ≡ sub_ℕ (a / m) t)
    a
    (m * t)
    (dec_lt a (m * t))
    (λ l. below l (dec_lt (a / m) t))
    (λ l. let e : a ≡ a - m * t + m * t = omega arith in sym (as_pos (a / m) t ((a - m * t) / m) (ap (λ (n : ℕ). n / m) e ∙ add-mul-div_left (a - m * t) t h)))
  where
    below : a < m * t → Dec (a / m < t) → negsuc ((m * t - suc a) / m) ≡ sub_ℕ (a / m) t
    below l (yes k) =
        let u : ℕ = t - suc (a / m) in
        let d : t ≡ a / m + suc u = omega arith in
        let e : m * t ≡ m * (a / m) + (m * u + m) = ap (λ (n : ℕ). m * n) d ∙ mul-add m (a / m) (suc u) ∙ ap (λ (n : ℕ). m * (a / m) + n) (mul-suc m u) in
        let r = mod-lt a h in
        let s = div-add-mod a m in
        let f : m * t - suc a ≡ m * u + (m - 1 - a % m) = omega arith in
        let o : m - 1 - a % m < m = omega arith in
        let g : (m * t - suc a) / m ≡ u = ap (λ (n : ℕ). n / m) f ∙ mul-add-div h u (m - 1 - a % m) ∙ ap (λ (n : ℕ). u + n) (div-eq_of_lt o) ∙ omega arith in
        sym (as_neg (a / m) t ((m * t - suc a) / m) (omega arith))
    below l (no n) = let k : t ≤ a / m = omega arith in let b = mul-le-mul_left m k in let s = div-add-mod a m in absurd (omega arith)

-- ---- order

same_test : (a b c d : ℕ) → (a < b → c < d) → (c < d → a < b) → ltb a b ≡ ltb c d
same_test a b c d f g = by (dec_lt a b)
  where
    by : Dec (a < b) → ltb a b ≡ ltb c d
    by (yes h) = lt-ltb a b h ∙ sym (lt-ltb c d (f h))
    by (no n) = le-ltb a b (omega arith) ∙ sym (le-ltb c d (other (dec_lt c d)))
      where
        other : Dec (c < d) → d ≤ c
        other (yes k) = absurd (n (g k))
        other (no k) = omega arith

pub less_sub : (a b c d : ℕ) → lt_z (sub_ℕ a b) (sub_ℕ c d) ≡ ltb (a + d) (c + b)
less_sub a b c d =
    by_sign
    (λ z. lt_z z (sub_ℕ c d) ≡ ltb (a + d) (c + b))
    a
    b
    (dec_lt a b)
    (λ h. by_sign (λ z. lt_z (negsuc (b - suc a)) z ≡ ltb (a + d) (c + b)) c d (dec_lt c d) (λ k. same_test (d - suc c) (b - suc a) (a + d) (c + b) (λ l. omega arith) (λ l. omega arith)) (λ k. sym (lt-ltb (a + d) (c + b) (omega arith))))
    (λ h. by_sign (λ z. lt_z (pos (a - b)) z ≡ ltb (a + d) (c + b)) c d (dec_lt c d) (λ k. sym (le-ltb (a + d) (c + b) (omega arith))) (λ k. same_test (a - b) (c - d) (a + d) (c + b) (λ l. omega arith) (λ l. omega arith)))

pub less_same : (a c t : ℕ) → lt_z (sub_ℕ a t) (sub_ℕ c t) ≡ ltb a c
less_same a c t = less_sub a t c t ∙ same_test (a + t) (c + t) a c (λ l. omega arith) (λ l. omega arith)

pub le_of : (a b c d : ℕ) → a + d ≤ c + b → sub_ℕ a b ≤ℤ sub_ℕ c d
le_of a b c d h = let e : lt_z (sub_ℕ c d) (sub_ℕ a b) ≡ false = less_sub c d a b ∙ le-ltb (c + b) (a + d) h in lt_z_no (rw e tt)

pub lt_of : (a b c d : ℕ) → a + d < c + b → sub_ℕ a b <ℤ sub_ℕ c d
lt_of a b c d h = let e : lt_z (sub_ℕ a b) (sub_ℕ c d) ≡ true = less_sub a b c d ∙ lt-ltb (a + d) (c + b) h in lt_z_yes (rw e tt)

pub of_le : (a b c d : ℕ) → sub_ℕ a b ≤ℤ sub_ℕ c d → a + d ≤ c + b
of_le a b c d h = by (dec_lt (c + b) (a + d))
  where
    by : Dec (c + b < a + d) → a + d ≤ c + b
    by (yes l) = clash_ℤ (lt_of c d a b l) h
    by (no n) = omega arith

pub pos_is : (n : ℕ) → pos n ≡ sub_ℕ n 0
pos_is n = sym (as_pos n 0 n (omega arith))

-- ---- the number of a range that is nearest

abbrev pub among : ℕ → ℕ → ℕ → ℕ
among l g q = cond (ltb q l) l (cond (ltb g q) g q)

pub among_cases : (P : ℕ → Type 0) (l g q : ℕ) → (q < l → P l) → (l ≤ q → g < q → P g) → (l ≤ q → q ≤ g → P q) → P (among l g q)
among_cases P l g q below above in-it = by (dec_lt q l) (dec_lt g q)
  where
    by : Dec (q < l) → Dec (g < q) → P (among l g q)
    by (yes h) d = rw (lt-ltb q l h) (below h)
    by (no n) (yes k) = let h : l ≤ q = omega arith in rw (le-ltb q l h, lt-ltb g q k) (above h k)
    by (no n) (no o) = let h : l ≤ q = omega arith in let k : q ≤ g = omega arith in rw (le-ltb q l h, le-ltb g q k) (in-it h k)

cond_sub : (b : Bool) (a c t : ℕ) → cond b (sub_ℕ a t) (sub_ℕ c t) ≡ sub_ℕ (cond b a c) t
cond_sub true a c t = refl
cond_sub false a c t = refl

pub within_sub : (l g q t : ℕ) → within (sub_ℕ l t) (sub_ℕ g t) (sub_ℕ q t) ≡ sub_ℕ (among l g q) t
within_sub l g q t =
    ap (λ (b : Bool). cond b (sub_ℕ l t) (cond (lt_z (sub_ℕ g t) (sub_ℕ q t)) (sub_ℕ g t) (sub_ℕ q t))) (less_same q l t)
    ∙ ap (λ (b : Bool). cond (ltb q l) (sub_ℕ l t) (cond b (sub_ℕ g t) (sub_ℕ q t))) (less_same g q t)
    ∙ ap (λ (z : ℤ). cond (ltb q l) (sub_ℕ l t) z) (cond_sub (ltb g q) g q t)
    ∙ cond_sub (ltb q l) l (cond (ltb g q) g q) t
