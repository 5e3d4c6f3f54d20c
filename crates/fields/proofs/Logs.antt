-- PSEL's size by its log, as its bits say it: a test over the values of the low four.
use mathlib.Core.Path.{◌≡◌}
use mathlib.Core.Bool.{Bool}
use Prim.Native.Nat.{ℕ, ◌*◌, ◌%◌, ◌^◌}
use native.Mathlib.Omega.{arith}
use lib.Count.{count_trailing_zeros}
use lib.Dec.{eqb, eqb→eq}
use Rattle.logic.specs.Pick.{pick}
use Rattle.element.specs.Size.{zeros, size_of}
use Rattle.element.specs.Units.{size_at}
use Rattle.element.proofs.Below.{below}

-- the size of four bits
sized : ℕ → ℕ
unfolding count_trailing_zeros
sized t = pick (eqb t 0) 0 (8 * 2 ^ count_trailing_zeros 32 t)

by_log : ℕ → Bool
unfolding sized count_trailing_zeros
by_log t = eqb (sized t) (size_at (count_trailing_zeros 32 t))

-- the log is the number of trailing zeros, 32 where there is no size
pub size_by_log : (field : ℕ) → size_of field ≡ size_at (zeros field)
unfolding size_of sized by_log count_trailing_zeros
size_by_log field = let t = field % 16 in eqb→eq (sized t) (size_at (count_trailing_zeros 32 t)) (below by_log 16 tt t (omega arith))
