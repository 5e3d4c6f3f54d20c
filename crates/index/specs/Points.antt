-- The adder's numbers beside starred case 10: W = ffffffff with the offsets 0 and 1, the second of which wraps, at two lengths.
use Rattle.std.specs.Prelude.{◌≡◌, ℕ, List, [], ◌∷◌}
use Rattle.index.specs.Index.{unit_of}
use Rattle.index.specs.declared.IndexUnit.{IndexUnit}

abbrev numbers : ℕ → ℕ → ℕ → IndexUnit
numbers s m i = record { sum = s; mask = m; index = i }

-- size 8
abbrev pub adder_points : List (Type 0)
adder_points =
    (unit_of 128 8 0xffffffff 0 ≡ numbers 0xffffffff 0x0f 15)
    ∷ (unit_of 128 8 0xffffffff 1 ≡ numbers 0 0x0f 0)
    ∷ (unit_of 256 8 0xffffffff 0 ≡ numbers 0xffffffff 0x1f 31)
    ∷ (unit_of 256 8 0xffffffff 1 ≡ numbers 0 0x1f 0)
    ∷ []
