-- Beside its layout: the features and the field condition of the row at a place of a table; neither is met past its end.
use Rattle.std.specs.Prelude.{Bool, false, ◌&&◌, List, [], map, ℕ, get_or}
use Rattle.setting.specs.Allowed.{has_any}
use Rattle.encoding.specs.Layout.{fields_of}
use Rattle.encoding.specs.Rows.{Row}

abbrev pub condition_at : List Row → ℕ → ℕ → Bool
condition_at rs k w = get_or (map (λ (r : Row). r.condition (fields_of r.layout w)) rs) k false

abbrev pub rest_at : List Row → ℕ → ℕ → ℕ → Bool
rest_at rs k f w = has_any f (get_or (map (λ (r : Row). r.features) rs) k []) && condition_at rs k w
