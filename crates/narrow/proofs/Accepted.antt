-- Which calls are accepted: those of the three sizes whose other arguments are.
use mathlib.Core.Path.{◌≡◌, ap, ◌∙◌}
use mathlib.Core.Bool.{Bool, true, false, ◌&&◌, and-true, and-false}
use Prim.Native.Nat.{ℕ}
use Rattle.element.specs.Size.{is_result}
use Rattle.narrowing.specs.Calls.{rest_ready, narrow_ready}

module _ (z vl size shift zn zd : ℕ) where
  pub refused : rest_ready z vl size shift zn zd ≡ false → narrow_ready z vl size shift zn zd ≡ false
  unfolding narrow_ready
  refused e = ap (λ (b : Bool). is_result size && b) e ∙ and-false (is_result size)

  module _ (rest : rest_ready z vl size shift zn zd ≡ true) where
    pub by_size : narrow_ready z vl size shift zn zd ≡ is_result size
    unfolding narrow_ready
    by_size = ap (λ (b : Bool). is_result size && b) rest ∙ and-true (is_result size)
