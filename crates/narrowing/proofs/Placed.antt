-- Where T puts a result: it has s bits, and so the two halves of an element do not touch.
use mathlib.Core.Path.{◌≡◌, ap, ◌∙◌}
use mathlib.Core.Bool.{Bool}
use Prim.Native.Nat.{ℕ, ◌+◌, ◌*◌, ◌/◌, ◌%◌, ◌^◌, ◌<◌}
use native.Mathlib.Nat.{mod-lt, mod-eq_of_lt, div-eq_of_lt, mul-add-mod_self_left, mul-add-div, add_comm}
use native.Mathlib.Omega.{arith}
use lib.Pow.{pow_pos}
use lib.IntN.{ℤ, pos, negsuc}
use Rattle.narrowing.specs.Narrowing.{Form, saturating, low_half, low, stored}
use Rattle.narrowing.specs.Registers.{placed, element}
use Rattle.narrowing.specs.Claims.{OddCleared, EvenKept}

low_lt : (s : ℕ) (z : ℤ) → low s z < 2 ^ s
unfolding low
low_lt s (pos n) = mod-lt n (pow_pos s)
low_lt s (negsuc n) = let p = pow_pos s in omega arith

pub stored_lt : (f : Form) (r : Bool) (s k : ℕ) (x : ℤ) → stored f r s k x < 2 ^ s
unfolding stored
stored_lt (saturating f) r s k x = low_lt s _
stored_lt low_half r s k x = low_lt s _

-- a + m * v, of a below m, is a and v
halves : (m a v : ℕ) → a < m → ((a + m * v) % m ≡ a) × ((a + m * v) / m ≡ v)
halves m a v h =
    let z : 0 < m = omega arith in
    let e : a + m * v ≡ m * v + a = add_comm a (m * v) in (
      ap (λ (n : ℕ). n % m) e ∙ mul-add-mod_self_left m v a ∙ mod-eq_of_lt h,
      ap (λ (n : ℕ). n / m) e ∙ mul-add-div z v a ∙ ap (λ (n : ℕ). v + n) (div-eq_of_lt h) ∙ omega arith,
    )

pub odd_cleared : OddCleared
unfolding element placed
odd_cleared f r s shift x y = stored_lt f r s shift _

pub even_kept : EvenKept
unfolding element placed
even_kept f r s shift x y = halves (2 ^ s) (y % 2 ^ s) _ (mod-lt y (pow_pos s))
