-- What no public promise cites: whether two numbers have a bit in common, and an element size as the proofs use it.
use Rattle.std.specs.Prelude.{◌≡◌, Bool, not, ◌⊎◌, ℕ, ◌*◌, ◌^◌, ◌<◌, eqb}
use Rattle.std.specs.Int.Bits.{bit_and}

abbrev pub shares : ℕ → ℕ → Bool
shares a b = not (eqb (bit_and a b) 0)

abbrev pub Size : ℕ → Type 0
Size size = (size ≡ 8) ⊎ ((size ≡ 16) ⊎ ((size ≡ 32) ⊎ (size ≡ 64)))

pub record Log (size z : ℕ) : Type 0 where
  pub small : z < 4
  pub is : size ≡ 8 * 2 ^ z
