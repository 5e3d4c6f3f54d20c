-- The claims of the saturating forms: a result lies in its range, by Curve, and so the stored bits hold it, by the sign.
use mathlib.Core.Path.{◌≡◌, sym, refl, ap, ◌∙◌}
use mathlib.Core.Bool.{Bool, true, false, cond}
use Prim.Native.Nat.{ℕ, zero, suc, ◌+◌, ◌-◌, ◌/◌, ◌%◌, ◌^◌, ◌≤◌, ◌<◌, min}
use native.Mathlib.Nat.{mod-eq_of_lt, min-eq_left, min-eq_right, min-le_right}
use native.Mathlib.Omega.{arith}
use lib.Dec.{ltb, leb→le}
use lib.Pow.{pow_pos}
use lib.IntN.{ℤ, pos, negsuc, neg_ℤ, sub_ℕ, ◌-ℤ◌}
use lib.Signed.{◌≤ℤ◌}
use borrow.Author.Tests.{lt-ltb, le-ltb}
use Rattle.narrowing.specs.Narrowing.{Saturating, signed_to_unsigned, signed_to_signed, unsigned_to_unsigned, form, signed_of, term, shifted, least, greatest, within, result, low, stored}
use Rattle.narrowing.specs.Claims.{InRange, Held, AsDocument01}
use Rattle.narrowing.proofs.Differences.{as_neg, take_sub, neg_is, pos_is, le_of, among, among_cases}
use Rattle.narrowing.proofs.Curve as curve
use Rattle.narrowing.proofs.Curve.{double}

pub ordered : (f : Saturating) (s : ℕ) → least f s ≤ℤ greatest f s
unfolding least greatest
ordered signed_to_unsigned s = rw (pos_is 0, pos_is (2 ^ s - 1)) (le_of 0 0 (2 ^ s - 1) 0 (omega arith))
ordered signed_to_signed s = rw (neg_is (2 ^ (s - 1)), pos_is (2 ^ (s - 1) - 1)) (le_of 0 (2 ^ (s - 1)) (2 ^ (s - 1) - 1) 0 (omega arith))
ordered unsigned_to_unsigned s = rw (pos_is 0, pos_is (2 ^ s - 1)) (le_of 0 0 (2 ^ s - 1) 0 (omega arith))

unsigned_held : (s : ℕ) (z : ℤ) → pos 0 ≤ℤ z → z ≤ℤ pos (2 ^ s - 1) → pos (low s z) ≡ z
unfolding low
unsigned_held s (pos n) a b = let h = leb→le n (2 ^ s - 1) b.le in let p = pow_pos s in ap pos (mod-eq_of_lt (omega arith))
unsigned_held s (negsuc n) a b = absurd a.le

pub neg_mag : (m n : ℕ) → neg_ℤ (pos m) ≤ℤ negsuc n → n < m
neg_mag zero n a = absurd a.le
neg_mag (suc m) n a = let h = leb→le n m a.le in omega arith

signed_held : (s : ℕ) (z : ℤ) → 1 ≤ s → neg_ℤ (pos (2 ^ (s - 1))) ≤ℤ z → z ≤ℤ pos (2 ^ (s - 1) - 1) → signed_of s (low s z) ≡ z
unfolding low signed_of
signed_held s (pos n) o a b =
    let h = leb→le n (2 ^ (s - 1) - 1) b.le in
    let p = pow_pos (s - 1) in
    let d = double s o in
    let l : n < 2 ^ (s - 1) = omega arith in
    let m : n < 2 ^ s = omega arith in
    rw (mod-eq_of_lt m, lt-ltb n (2 ^ (s - 1)) l)
signed_held s (negsuc n) o a b =
    let h = neg_mag (2 ^ (s - 1)) n a in
    let d = double s o in
    let m : n < 2 ^ s = omega arith in
    let l : 2 ^ (s - 1) ≤ 2 ^ s - 1 - n = omega arith in
    rw (mod-eq_of_lt m, le-ltb (2 ^ s - 1 - n) (2 ^ (s - 1)) l)
    (ap (λ (z : ℤ). z -ℤ pos (2 ^ s)) (pos_is (2 ^ s - 1 - n)) ∙ ap (λ (z : ℤ). sub_ℕ (2 ^ s - 1 - n) 0 -ℤ z) (pos_is (2 ^ s)) ∙ take_sub (2 ^ s - 1 - n) 0 (2 ^ s) 0 ∙ as_neg (2 ^ s - 1 - n + 0) (0 + 2 ^ s) n (omega arith))

pub in_range : InRange
unfolding result
in_range f r s shift x = curve.in_range (least f s) (greatest f s) (shifted r shift x) (ordered f s)

pub held : Held
unfolding least greatest
held signed_to_unsigned r s shift x o = let h = in_range signed_to_unsigned r s shift x in unsigned_held s _ h.0 h.1
held signed_to_signed r s shift x o = let h = in_range signed_to_signed r s shift x in signed_held s _ o h.0 h.1
held unsigned_to_unsigned r s shift x o = let h = in_range unsigned_to_unsigned r s shift x in unsigned_held s _ h.0 h.1

-- ---- document 01's words, in natural numbers

cond_pos : (b : Bool) (m n : ℕ) → cond b (pos m) (pos n) ≡ pos (cond b m n)
cond_pos true m n = refl
cond_pos false m n = refl

pub within_pos : (l g q : ℕ) → within (pos l) (pos g) (pos q) ≡ pos (among l g q)
within_pos l g q = ap (λ (z : ℤ). cond (ltb q l) (pos l) z) (cond_pos (ltb g q) g q) ∙ cond_pos (ltb q l) l (cond (ltb g q) g q)

pub among_min : (g q : ℕ) → among 0 g q ≡ min q g
among_min g q = among_cases (λ n. n ≡ min q g) 0 g q (λ u. absurd (omega arith)) (λ u v. sym (let l : g ≤ q = omega arith in min-eq_right l)) (λ u v. sym (min-eq_left v))

-- the unsigned form, with or without rounding
pub unsigned_is : (r : Bool) (s k x : ℕ) → stored (form true true) r s k (pos x) ≡ min ((x + term r k) / 2 ^ k) (2 ^ s - 1)
unfolding form stored result shifted least greatest low
unsigned_is r s k x =
    let p = pow_pos s in
    let m = min-le_right ((x + term r k) / 2 ^ k) (2 ^ s - 1) in
    let l : min ((x + term r k) / 2 ^ k) (2 ^ s - 1) < 2 ^ s = omega arith in
    ap (low s) (within_pos 0 (2 ^ s - 1) ((x + term r k) / 2 ^ k)) ∙ ap (λ (n : ℕ). n % 2 ^ s) (among_min (2 ^ s - 1) ((x + term r k) / 2 ^ k)) ∙ mod-eq_of_lt l

pub as_document_01 : AsDocument01
as_document_01 r s k x = unsigned_is r s k x
