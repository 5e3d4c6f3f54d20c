-- What the private functions, here and in the operations, ask of their callers: the widths and the vector lengths.
use Rattle.std.specs.Prelude.{◌≡◌, ◌⊎◌, ℕ, ◌%◌, ◌≤◌}

abbrev pub Width : ℕ → Type 0
Width w = (w ≡ 2) ⊎ ((w ≡ 4) ⊎ (w ≡ 8))

pub record Lengths (vl : ℕ) : Type 0 where
  pub least : 128 ≤ vl
  pub most : vl ≤ 2048
  pub even : vl % 128 ≡ 0
