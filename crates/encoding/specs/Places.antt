-- The table by places: what stands in the row at a place, from 0, and the place of the row that a word has. The table's length is the place of no row.
use Rattle.std.specs.Prelude.{Bool, ◌&&◌, List, [], ◌∷◌, map, ℕ, suc, ltb, length, get_or, Option, Some, None}
use Rattle.setting.specs.Numbers.{Outcome, accept, refuse}
use Rattle.setting.specs.declared.Feature.{Feature}
use Rattle.logic.specs.Pick.{pick}
use Rattle.encoding.specs.Layout.{Piece, matches}
use Rattle.encoding.specs.Rows.{Row, rows, row_matches, place_of}
use Rattle.encoding.specs.declared.Instruction.{Instruction}

-- the layout and the features at a place: none past the table's end
abbrev pub layout_at : ℕ → List Piece
layout_at k = get_or (map (λ (r : Row). r.layout) rows) k []

abbrev pub features_at : ℕ → List Feature
features_at k = get_or (map (λ (r : Row). r.features) rows) k []

-- there is a row at the place, and the word has its layout
abbrev pub has_layout : ℕ → ℕ → Bool
has_layout k w = ltb k (length rows) && matches (layout_at k) w

-- the place of the first row that matches the word
unfoldable pub place_first : List Row → ℕ → ℕ → ℕ
place_first [] f w = 0
place_first (r ∷ rs) f w = pick (row_matches r f w) 0 (suc (place_first rs f w))

-- a place as the code answers it: none where it is that of no row
abbrev pub found_place : ℕ → Option ℕ
found_place k = pick (ltb k (length rows)) (Some k) None

-- the place of the form that a word was read as
abbrev pub place_in : Outcome Instruction → ℕ
place_in (accept i) = place_of i
place_in (refuse n) = length rows
