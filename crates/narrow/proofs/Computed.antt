-- The bounds as the code computes them in 64 bits, and that they fit the element's type: sums of powers of two, which omega reads.
use mathlib.Core.Path.{◌≡◌, ap, ◌∙◌}
use mathlib.Core.Bool.{Bool, true, false}
use Prim.Native.Nat.{ℕ, zero, suc, ◌+◌, ◌-◌, ◌*◌, ◌%◌, ◌^◌, ◌≤◌, ◌<◌, min}
use native.Mathlib.Nat.{one-mul, zero-mul, min-le_right}
use native.Mathlib.Omega.{arith}
use lib.Dec.{lit<, lit≤}
use lib.IntN.{ℤ, pos, neg_ℤ}
use lib.Signed.{mag}
use lib.Pow.{pow_mono, shl_exact}
use mir.Syntax.{w64}
use mir.Val.{SFits, bool_byte, to_z, of_z}
use mir.ValLaws.{to_z-of_z, to_z_pos}
use Rattle.narrowing.specs.Narrowing.{term}
use Rattle.narrow.specs.Private.{below, above, top_of, Sized, SignedBounds, UnsignedBounds}
use Rattle.narrow.proofs.Clamp.{term_le, powers}

pub one_shl : (n : ℕ) → n < 64 → (1 * 2 ^ n) % 2 ^ 64 ≡ 2 ^ n
one_shl n h = shl_exact 1 n 64 (lit< tt) (omega arith) ∙ one-mul (2 ^ n)

term_shl : (r : Bool) (k : ℕ) → k ≤ 32 → (bool_byte r * 2 ^ (k - 1)) % 2 ^ 64 ≡ term r k
unfolding term
term_shl false k h = rw (zero-mul (2 ^ (k - 1)))
term_shl true k h = one_shl (k - 1) (omega arith)

-- with these every bound is one of sums
pub record Room (r : Bool) (s k : ℕ) : Type 0 where
  pub half : term r k < 2 ^ (s - 1 + k)
  pub sum : 2 ^ (s + k) ≡ 2 ^ (s - 1 + k) * 2
  pub most : 2 ^ (s - 1 + k) ≤ 2 ^ (2 * s - 1)
  pub top : 2 ^ (2 * s - 1) ≤ 2 ^ 63
  pub two : 2 ≤ 2 ^ (2 * s - 1)

pub room : (r : Bool) {s k : ℕ} → Sized s k → Room r s k
room r {s} {k} h =
    let a = h.some in
    let b = h.most in
    let c = h.size in
    let p = powers s k a b in
    let t = term_le r k in
    let g : s - 1 + k ≤ 2 * s - 1 = omega arith in
    let i : 2 * s - 1 ≤ 63 = omega arith in
    let j : 1 ≤ 2 * s - 1 = omega arith in
    record {
      half = omega arith;
      sum = p.twice;
      most = pow_mono g;
      top = pow_mono i;
      two = pow_mono j;
    }

module _ {s k : ℕ} (is : Sized s k) where
  pub below_le : (op r : Bool) → below op r s k ≤ 2 ^ (2 * s - 1)
  unfolding below
  below_le false r = let a = room r is in omega arith
  below_le true r = min-le_right (2 ^ (s - 1 + k) + term r k) (2 ^ (2 * s - 1))

  pub above_lt : (op r : Bool) → above op r s k < 2 ^ (2 * s - 1)
  unfolding above
  above_lt false r = let l = min-le_right (2 ^ (s + k) - 1 - term r k) (2 ^ (2 * s - 1) - 1) in let a = room r is in omega arith
  above_lt true r = let a = room r is in omega arith

-- ---- minus n, in 64 bits

pub neg_mag : (n : ℕ) {m : ℕ} → 1 ≤ m → n ≤ m → mag (neg_ℤ (pos n)) < m
neg_mag zero o h = o
neg_mag (suc n) o h = h

wrapped : (n : ℕ) {m : ℕ} → n ≤ 2 ^ 63 → m < 2 ^ 64 → (m + n) % 2 ^ 64 ≡ 0 → m ≡ of_z w64 (neg_ℤ (pos n))
wrapped zero h l e = omega arith
wrapped (suc n) h l e = omega arith

minus_is : (n : ℕ) {m : ℕ} {z : ℤ} → n ≤ 2 ^ 63 → m < 2 ^ 64 → (m + n) % 2 ^ 64 ≡ 0 → z ≡ to_z w64 m → to_z w64 (of_z w64 z) ≡ neg_ℤ (pos n)
minus_is n {m} h l e ez =
    let f : SFits w64 (neg_ℤ (pos n)) = record { sfits = neg_mag n {m = 2 ^ 63} (lit≤ tt) h } in
    let i : to_z w64 m ≡ neg_ℤ (pos n) = ap (to_z w64) (wrapped n h l e) ∙ to_z-of_z w64 (neg_ℤ (pos n)) f in
    rw (ez, i) (to_z-of_z w64 (neg_ℤ (pos n)) f)

-- ---- the bounds of each class, of the code's numbers

pub record Numbers (r : Bool) (s k h p q : ℕ) : Type 0 where
  pub sized : Sized s k
  pub term : h ≡ term r k
  pub half : p ≡ 2 ^ (s - 1 + k)
  pub most : q ≡ 2 ^ (2 * s - 1)

pub numbers : {r : Bool} {s k n : ℕ} → Sized s k → n ≡ bool_byte r → Numbers r s k ((n * 2 ^ (k - 1)) % 2 ^ 64) ((1 * 2 ^ (s - 1 + k)) % 2 ^ 64) ((1 * 2 ^ (2 * s - 1)) % 2 ^ 64)
numbers {r} {s} {k} is e =
    let a = is.most in
    let b = is.size in
    record {
      sized = is;
      term = rw e (term_shl r k (omega arith));
      half = one_shl (s - 1 + k) (omega arith);
      most = one_shl (2 * s - 1) (omega arith);
    }

module _ {r : Bool} {s k h p q : ℕ} (n : Numbers r s k h p q) where
  -- what every difference and sum of the code needs
  pub term_lt : h < p
  term_lt = let a = room r n.sized in let e = n.term in let f = n.half in omega arith

  pub top_is : UnsignedBounds r s k (p - 1 + (p - h)) h
  unfolding top_of
  top_is = let a = room r n.sized in let e = n.term in let f = n.half in record { greatest = omega arith; rounding = e }

  -- op set
  pub signed_are : {b m : ℕ} {z : ℤ} → b ≡ min (p + h) q → m < 2 ^ 64 → (m + b) % 2 ^ 64 ≡ 0 → z ≡ to_z w64 m → SignedBounds true r s k (to_z w64 (of_z w64 z)) (to_z w64 (p - 1 - h))
  unfolding above below
  signed_are {b} e l z ez =
      let a = room r n.sized in
      let t = n.term in
      let f = n.half in
      let g = n.most in
      let i = min-le_right (p + h) q in
      let j : b ≤ 2 ^ 63 = omega arith in
      record { least = minus_is b j l z ez ∙ rw (e, f, t, g); greatest = to_z_pos w64 (p - 1 - h) (omega arith) ∙ rw (f, t) }

  -- op clear
  pub unsigned_are : {b m : ℕ} {z : ℤ} → b ≡ min (p - 1 + (p - h)) (q - 1) → m < 2 ^ 64 → (m + h) % 2 ^ 64 ≡ 0 → z ≡ to_z w64 m → SignedBounds false r s k (to_z w64 (of_z w64 z)) (to_z w64 b)
  unfolding above below
  unsigned_are {b} e l z ez =
      let a = room r n.sized in
      let t = n.term in
      let f = n.half in
      let g = n.most in
      let i = min-le_right (p - 1 + (p - h)) (q - 1) in
      let j : h ≤ 2 ^ 63 = omega arith in
      let d : p - 1 + (p - h) ≡ 2 ^ (s + k) - 1 - term r k = omega arith in
      record { least = minus_is h j l z ez ∙ rw t; greatest = to_z_pos w64 b (omega arith) ∙ rw (e, d, g) }
