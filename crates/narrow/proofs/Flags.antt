-- A const parameter of type bool, of which proofs have the byte.
use mathlib.Core.Path.{◌≡◌}
use mathlib.Core.Bool.{Bool, true, false, not}
use Prim.Native.Nat.{ℕ}
use lib.Dec.{eqb}
use borrow.Author.Tests.{ne_eqb}

abbrev pub flag : ℕ → Bool
flag n = not (eqb n 0)

pub flag_set : (n : ℕ) → (n ≡ 0 → ⊥) → flag n ≡ true
flag_set n h = rw (ne_eqb n 0 h)

pub flag_clear : (n : ℕ) → n ≡ 0 → flag n ≡ false
flag_clear n e = rw e
