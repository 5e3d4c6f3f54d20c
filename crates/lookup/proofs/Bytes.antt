-- The bytes of two numbers are those of one, the second raised past the first: bytes split at any place, and what is past them does not count. Over the width.
use mathlib.Core.Path.{◌≡◌, refl, sym, ap, ◌∙◌}
use mathlib.Core.List.{◌++◌}
use Prim.Native.Nat.{ℕ, zero, suc, ◌+◌, ◌*◌, ◌/◌, ◌%◌, ◌^◌, ◌<◌}
use native.Mathlib.Nat.{zero-add, suc-add, pow-suc, mul_comm, mul_assoc, div-one, div-div-eq-div-mul, mod-add-div, mod-lt, div-eq_of_lt, add-mul-div_right}
use native.Mathlib.Omega.{arith}
use lib.Dec.{lit<}
use Rattle.element.specs.Contents.{bytes}

power_more : (w : ℕ) → 256 ^ suc w ≡ 256 * 256 ^ w
power_more w = pow-suc 256 w ∙ mul_comm (256 ^ w) 256

power_pos : (w : ℕ) → 0 < 256 ^ w
power_pos zero = lit< tt
power_pos (suc w) = rw (power_more w) (omega (arith, power_pos w))

-- what is past the bytes
above_cut : (w x y : ℕ) → bytes w (x + 256 ^ w * y) ≡ bytes w x
unfolding bytes
above_cut zero x y = refl
above_cut (suc w) x y =
    let p : 256 ^ suc w * y ≡ 256 * (256 ^ w * y) = ap (λ (n : ℕ). n * y) (power_more w) ∙ mul_assoc 256 (256 ^ w) y in
    let m : (x + 256 * (256 ^ w * y)) % 256 ≡ x % 256 = omega arith in
    let d : (x + 256 * (256 ^ w * y)) / 256 ≡ x / 256 + 256 ^ w * y = omega arith in
    rw (p, m, d, above_cut w (x / 256) y)

cut : (w x : ℕ) → bytes w (x % 256 ^ w) ≡ bytes w x
cut w x = sym (above_cut w (x % 256 ^ w) (x / 256 ^ w)) ∙ ap (bytes w) (mod-add-div x (256 ^ w))

-- a place where they split
split_at : (a b x : ℕ) → bytes (a + b) x ≡ bytes a x ++ bytes b (x / 256 ^ a)
unfolding bytes
split_at zero b x = rw (zero-add b, div-one x)
split_at (suc a) b x =
    let d : x / 256 / 256 ^ a ≡ x / 256 ^ suc a = div-div-eq-div-mul x 256 (256 ^ a) ∙ ap (λ (n : ℕ). x / n) (sym (power_more a)) in
    rw (suc-add a b, split_at a b (x / 256), d)

pub both_bytes : (w x y : ℕ) → bytes (w + w) (x % 256 ^ w + y % 256 ^ w * 256 ^ w) ≡ bytes w x ++ bytes w y
both_bytes w x y =
    let p = power_pos w in
    let d : (x % 256 ^ w + y % 256 ^ w * 256 ^ w) / 256 ^ w ≡ y % 256 ^ w = add-mul-div_right (x % 256 ^ w) (y % 256 ^ w) p ∙ rw (div-eq_of_lt (mod-lt x p)) (omega arith) in
    let c : x % 256 ^ w + y % 256 ^ w * 256 ^ w ≡ x % 256 ^ w + 256 ^ w * (y % 256 ^ w) = rw (mul_comm (y % 256 ^ w) (256 ^ w)) in
    split_at w w (x % 256 ^ w + y % 256 ^ w * 256 ^ w) ∙ rw (d, c, above_cut w (x % 256 ^ w) (y % 256 ^ w), cut w x, cut w y)
