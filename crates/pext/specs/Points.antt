-- Document 01, "Points on the board": starred cases 6 and 9. VL 128.
use Rattle.std.specs.Prelude.{◌≡◌, List, [], ◌∷◌}
use Rattle.logic.specs.Every.{Every}
use Rattle.pext.specs.Pext.{pext_of}

abbrev pub pext_points : List (Type 0)
pext_points =
    -- 6: counter 0007, portion 0 at B and at H
    (pext_of 128 8 0 (0x07 ∷ 0x00 ∷ []) ≡ 0x07 ∷ 0x00 ∷ [])
    ∷ (pext_of 128 16 0 (0x07 ∷ 0x00 ∷ []) ≡ 0x05 ∷ 0x00 ∷ [])
    -- 9: 8021, portions 0 to 3 at B
    ∷ (pext_of 128 8 0 (0x21 ∷ 0x80 ∷ []) ≡ 0x00 ∷ 0x00 ∷ [])
    ∷ (pext_of 128 8 1 (0x21 ∷ 0x80 ∷ []) ≡ 0xff ∷ 0xff ∷ [])
    ∷ (pext_of 128 8 2 (0x21 ∷ 0x80 ∷ []) ≡ 0xff ∷ 0xff ∷ [])
    ∷ (pext_of 128 8 3 (0x21 ∷ 0x80 ∷ []) ≡ 0xff ∷ 0xff ∷ [])
    ∷ []

abbrev pub Claims : Type 0
Claims = Every pext_points
