-- What the private functions go by: a row's features as one number.
use Rattle.std.specs.Prelude.{List, [], ◌∷◌, ℕ, ◌^◌}
use Rattle.std.specs.Int.Bits.{bit_or}
use Rattle.setting.specs.Allowed.{feature_bit}
use Rattle.setting.specs.declared.Feature.{Feature}

-- features as bits of the feature number
abbrev pub feature_bits : List Feature → ℕ
feature_bits [] = 0
feature_bits (x ∷ xs) = bit_or (2 ^ feature_bit x) (feature_bits xs)
