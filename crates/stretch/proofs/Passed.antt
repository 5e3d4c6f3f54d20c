-- A test that decides between a number that is not 0 and what follows was passed where the answer is 0: by cases on the test.
use mathlib.Core.Path.{◌≡◌, refl}
use mathlib.Core.Bool.{Bool, true, false}
use Prim.Native.Nat.{ℕ, suc}
use native.Mathlib.Omega.{arith}
use Rattle.logic.specs.Pick.{pick}

pub record Passed (b : Bool) (rest : ℕ) : Type 0 where
  pub yes : b ≡ true
  pub then : rest ≡ 0

pub passed : (b : Bool) (rest k : ℕ) → pick b rest (suc k) ≡ 0 → Passed b rest
passed true rest k h = record { yes = refl; then = h }
passed false rest k h = absurd (omega arith)
