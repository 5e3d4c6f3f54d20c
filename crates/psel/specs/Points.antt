-- Document 01, "Points on the board": of starred case 10 which element is read; beside it document 02's PSEL at a size that has bits between elements. VL 128.
use Rattle.std.specs.Prelude.{◌≡◌, List, [], ◌∷◌, ◌+◌}
use Rattle.logic.specs.Every.{Every}
use Rattle.index.specs.Index.{index_of}
use Rattle.psel.specs.Psel.{psel_of}

abbrev pub psel_points : List (Type 0)
psel_points =
    -- 10: size 8, offset 1, W12 = ffffffff
    (index_of 128 8 (0xffffffff + 1) ≡ 0)
    ∷ []

-- size 64, whose elements are bits 0 and 8; element 1 of Pm alone true, and it alone false
abbrev pub whole_points : List (Type 0)
whole_points =
    (psel_of 128 64 1 (0xa5 ∷ 0x3c ∷ []) (0x00 ∷ 0x01 ∷ []) ≡ 0xa5 ∷ 0x3c ∷ [])
    ∷ (psel_of 128 64 1 (0xa5 ∷ 0x3c ∷ []) (0xff ∷ 0xfe ∷ []) ≡ 0x00 ∷ 0x00 ∷ [])
    ∷ []

pub record Claims : Type 0 where
  pub starred : Every psel_points
  pub whole : Every whole_points
