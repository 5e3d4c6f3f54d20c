-- Document 01, "Points on the board": the starred cases 1 to 10 as one list, each crate's own and of 10 what the word does.
use Rattle.std.specs.Prelude.{◌≡◌, List, [], ◌∷◌, ◌++◌}
use Rattle.encoding.specs.Points.{board, reading_points}
use Rattle.narrowing.specs.Points.{narrow_points}
use Rattle.counter.specs.Points.{counter_points}
use Rattle.pext.specs.Points.{pext_points}
use Rattle.psel.specs.Points.{psel_points}
use Rattle.machine.specs.Machine.{Z, P, W}
use Rattle.machine.specs.Step.{reads, writes, gives}

abbrev pub element_points : List (Type 0)
element_points =
    -- 10: 252c4000 reads P0 twice, as Pn and as Pm, and W12
    (reads board 0x252c4000 ≡ P 0 ∷ P 0 ∷ W 12 ∷ [])
    -- with W12 = ffffffff: element 0 of Pm alone true, and it alone false
    ∷ (gives board 0x252c4000 ((0xa5 ∷ 0x3c ∷ []) ∷ (0x01 ∷ 0x00 ∷ []) ∷ (0xffffffff ∷ []) ∷ []) ≡ (0xa5 ∷ 0x3c ∷ []) ∷ [])
    ∷ (gives board 0x252c4000 ((0xa5 ∷ 0x3c ∷ []) ∷ (0xfe ∷ 0xff ∷ []) ∷ (0xffffffff ∷ []) ∷ []) ≡ (0x00 ∷ 0x00 ∷ []) ∷ [])
    ∷ []

-- 11, not starred: 2520741f writes P15 and P0; and of the counter 8021, whose portion 0 is all false, it gives portion 1, all true, second
-- document 02, request 2: 25e04000, whose elements are bits 0 and 8, copies the bits between them too; with W12 = 0 element 1 of Pm alone true, and it alone false
abbrev pub predicate_words : List (Type 0)
predicate_words =
    (writes board 0x2520741f ≡ P 15 ∷ P 0 ∷ [])
    ∷ (gives board 0x2520741f ((0x21 ∷ 0x80 ∷ []) ∷ []) ≡ (0x00 ∷ 0x00 ∷ []) ∷ (0xff ∷ 0xff ∷ []) ∷ [])
    ∷ (gives board 0x25e04000 ((0xa5 ∷ 0x3c ∷ []) ∷ (0x00 ∷ 0x01 ∷ []) ∷ (0 ∷ []) ∷ []) ≡ (0xa5 ∷ 0x3c ∷ []) ∷ [])
    ∷ (gives board 0x25e04000 ((0xa5 ∷ 0x3c ∷ []) ∷ (0xff ∷ 0xfe ∷ []) ∷ (0 ∷ []) ∷ []) ≡ (0x00 ∷ 0x00 ∷ []) ∷ [])
    -- 25244443: Pn is P1, Pm is P2, Pd is P3
    ∷ (reads board 0x25244443 ≡ P 1 ∷ P 2 ∷ W 12 ∷ [])
    ∷ (writes board 0x25244443 ≡ P 3 ∷ [])
    ∷ []

-- document 02, request 1: SQSHRNB reads Z1, and SQSHRNT Z1 and Z2, which it writes
abbrev pub narrow_touches : List (Type 0)
narrow_touches =
    (reads board 0x45282022 ≡ Z 1 ∷ [])
    ∷ (reads board 0x45282422 ≡ Z 1 ∷ Z 2 ∷ [])
    ∷ (writes board 0x45282422 ≡ Z 2 ∷ [])
    ∷ []

-- 1 to 3 and the readings of 10; 4 and 5; 7 and 8; 6 and 9; the index of 10; the rest of 10
abbrev pub starred : List (Type 0)
starred = reading_points ++ (narrow_points ++ (counter_points ++ (pext_points ++ (psel_points ++ element_points))))
