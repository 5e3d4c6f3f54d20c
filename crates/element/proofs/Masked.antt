-- A number under two masks: in either order, and under both at once; by its binary digits.
use mathlib.Core.Path.{◌≡◌, refl, sym, ap, ap₂, ◌∙◌}
use Prim.Native.Nat.{ℕ, ◌+◌, ◌*◌, ◌%◌, ◌/◌, ◌<◌, min}
use native.Mathlib.Omega.{arith}
use lib.Arith.{bin_ind}
use lib.Bits.{bit_and, and_step, and_comm}

min_either : (x y z : ℕ) → min (min x y) z ≡ min (min x z) y
min_either x y z = omega arith

-- the last bit of a word masked twice, and the bits above it
twice_step : (w a b : ℕ) → bit_and (bit_and w a) b ≡ bit_and (bit_and (w / 2) (a / 2)) (b / 2) * 2 + min (min (w % 2) (a % 2)) (b % 2)
twice_step w a b =
    let m : min (w % 2) (a % 2) < 2 = omega arith in
    let s = and_step w a in
    let h : bit_and w a / 2 ≡ bit_and (w / 2) (a / 2) = omega arith in
    let l : bit_and w a % 2 ≡ min (w % 2) (a % 2) = omega arith in
    and_step (bit_and w a) b ∙ ap₂ (λ (x y : ℕ). bit_and x (b / 2) * 2 + min y (b % 2)) h l

pub masked_either : (w a b : ℕ) → bit_and (bit_and w a) b ≡ bit_and (bit_and w b) a
masked_either w =
    bin_ind (λ (n : ℕ). (a b : ℕ) → bit_and (bit_and n a) b ≡ bit_and (bit_and n b) a)
    (λ a b. refl)
    (λ n ih a b. twice_step n a b ∙ ap₂ (λ (x y : ℕ). x * 2 + y) (ih (a / 2) (b / 2)) (min_either (n % 2) (a % 2) (b % 2)) ∙ sym (twice_step n b a)) w

pub masked_once : (w a b : ℕ) → bit_and w (bit_and a b) ≡ bit_and (bit_and w a) b
masked_once w a b = and_comm w (bit_and a b) ∙ masked_either a b w ∙ ap (λ (n : ℕ). bit_and n b) (and_comm a w)
