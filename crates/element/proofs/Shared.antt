-- Whether two numbers share a bit: an OR shares what one of its parts shares, since AND goes through OR digit by digit; two powers of 2 share their bit where they are one, and a number shares a power's where it has that digit.
use mathlib.Core.Path.{◌≡◌, refl, sym, ◌∙◌, ap, ap₂}
use mathlib.Core.Bool.{false, not, ◌||◌}
use Prim.Native.Nat.{ℕ, zero, suc, ◌+◌, ◌-◌, ◌*◌, ◌/◌, ◌%◌, ◌^◌, ◌<◌, min, max}
use native.Mathlib.Nat.{zero-mul, one-mul}
use native.Mathlib.Omega.{arith}
use native.Mathlib.Decide.{ℕ_discrete, dec_lt}
use lib.Dec.{eqb}
use lib.Arith.{bin_ind}
use lib.Pow.{pow-add, pow_pos, pow-lt}
use lib.Bits.{bit_and, bit_or, and_step, or_step, and_comm, and_self, and_zero_r, and_shifted, and_high, or_add_and, and_le_r}
use borrow.Author.Tests.{eq-eqb, ne_eqb}
use Rattle.element.specs.Private.{shares}

-- ---- AND through OR
digits_through : (x y z : ℕ) → min (max x y) z ≡ max (min x z) (min y z)
digits_through x y z = omega arith

and_or_step : (a b x : ℕ) → bit_and (bit_or a b) x ≡ bit_and (bit_or (a / 2) (b / 2)) (x / 2) * 2 + min (max (a % 2) (b % 2)) (x % 2)
and_or_step a b x =
    let m : max (a % 2) (b % 2) < 2 = omega arith in
    let s = or_step a b in
    let h : bit_or a b / 2 ≡ bit_or (a / 2) (b / 2) = omega arith in
    let l : bit_or a b % 2 ≡ max (a % 2) (b % 2) = omega arith in
    and_step (bit_or a b) x ∙ ap₂ (λ (p q : ℕ). bit_and p (x / 2) * 2 + min q (x % 2)) h l

or_and_step : (a b x : ℕ)
    → bit_or (bit_and a x) (bit_and b x) ≡ bit_or (bit_and (a / 2) (x / 2)) (bit_and (b / 2) (x / 2)) * 2 + max (min (a % 2) (x % 2)) (min (b % 2) (x % 2))
or_and_step a b x =
    let m : min (a % 2) (x % 2) < 2 = omega arith in
    let n : min (b % 2) (x % 2) < 2 = omega arith in
    let s = and_step a x in
    let t = and_step b x in
    let h : bit_and a x / 2 ≡ bit_and (a / 2) (x / 2) = omega arith in
    let i : bit_and b x / 2 ≡ bit_and (b / 2) (x / 2) = omega arith in
    let k : bit_and a x % 2 ≡ min (a % 2) (x % 2) = omega arith in
    let l : bit_and b x % 2 ≡ min (b % 2) (x % 2) = omega arith in
    or_step (bit_and a x) (bit_and b x) ∙ ap₂ (λ (p q : ℕ). p * 2 + q) (ap₂ bit_or h i) (ap₂ max k l)

and_or : (a b x : ℕ) → bit_and (bit_or a b) x ≡ bit_or (bit_and a x) (bit_and b x)
and_or a =
    bin_ind (λ (n : ℕ). (b x : ℕ) → bit_and (bit_or n b) x ≡ bit_or (bit_and n x) (bit_and b x))
    (λ b x. refl)
    (λ n ih b x. and_or_step n b x ∙ ap₂ (λ (p q : ℕ). p * 2 + q) (ih (b / 2) (x / 2)) (digits_through (n % 2) (b % 2) (x % 2)) ∙ sym (or_and_step n b x)) a

-- ---- a bit in common
some_bit : (a b : ℕ) → not (eqb (bit_or a b) 0) ≡ not (eqb a 0) || not (eqb b 0)
some_bit a b = go (ℕ_discrete a 0) (ℕ_discrete b 0)
  where
    go : Dec (a ≡ 0) → Dec (b ≡ 0) → not (eqb (bit_or a b) 0) ≡ not (eqb a 0) || not (eqb b 0)
    go (yes p) (yes q) = rw (p, q)
    go (yes p) (no q) = rw p
    go (no p) q = rw (ne_eqb a 0 p, ne_eqb (bit_or a b) 0 (λ e. p (omega (arith, or_add_and a b, and_le_r a b))))

pub shares_or : (a b x : ℕ) → shares (bit_or a b) x ≡ shares a x || shares b x
shares_or a b x = ap (λ (n : ℕ). not (eqb n 0)) (and_or a b x) ∙ some_bit (bit_and a x) (bit_and b x)

pub shares_comm : (a b : ℕ) → shares a b ≡ shares b a
shares_comm a b = ap (λ (n : ℕ). not (eqb n 0)) (and_comm a b)

pub shares_none : (a : ℕ) → shares a 0 ≡ false
shares_none a = ap (λ (n : ℕ). not (eqb n 0)) (and_zero_r a)

pub or_shares : (x a b : ℕ) → shares x (bit_or a b) ≡ shares x a || shares x b
or_shares x a b = shares_comm x (bit_or a b) ∙ shares_or a b x ∙ ap₂ ◌||◌ (shares_comm a x) (shares_comm b x)

-- ---- powers of 2
apart : (m n : ℕ) → m < n → bit_and (2 ^ n) (2 ^ m) ≡ 0
apart m n h = ap (λ (x : ℕ). bit_and x (2 ^ m)) (sym (one-mul (2 ^ n))) ∙ and_shifted 1 n (2 ^ m) (pow-lt h)

pub powers_share : (m n : ℕ) → shares (2 ^ m) (2 ^ n) ≡ eqb m n
powers_share m n = go (ℕ_discrete m n) (dec_lt m n)
  where
    go : Dec (m ≡ n) → Dec (m < n) → shares (2 ^ m) (2 ^ n) ≡ eqb m n
    go (yes e) d = rw (e, and_self (2 ^ n), eq-eqb n n refl, ne_eqb (2 ^ n) 0 (λ z. omega (arith, pow_pos n)))
    go (no e) (yes l) = rw (ne_eqb m n e, and_comm (2 ^ m) (2 ^ n), apart m n l)
    go (no e) (no l) = rw (ne_eqb m n e, apart n m (omega arith))

one_digit : (k x : ℕ) → x < 2 → not (eqb (x * 2 ^ k) 0) ≡ eqb x 1
one_digit k zero h = rw (zero-mul (2 ^ k))
one_digit k (suc zero) h = rw (one-mul (2 ^ k), ne_eqb (2 ^ k) 0 (λ z. omega (arith, pow_pos k)))
one_digit k (suc (suc x)) h = absurd (omega arith)

pub shares_power : (n k : ℕ) → shares n (2 ^ k) ≡ eqb (n / 2 ^ k % 2) 1
shares_power n k =
    let e : 2 ^ k ≡ 2 ^ (1 + k) - 2 ^ k = rw (pow-add 2 1 k) (omega arith) in
    ap (λ (x : ℕ). not (eqb x 0)) (ap (bit_and n) e ∙ and_high n 1 k) ∙ one_digit k (n / 2 ^ k % 2) (omega arith)
