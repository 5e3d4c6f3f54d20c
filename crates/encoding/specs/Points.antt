-- Document 01, "Points on the board": the starred cases that are about reading words, as one list, and beside it points of PEXT and PSEL. The crate machine adds the others.
use Rattle.std.specs.Prelude.{◌≡◌, true, false, List, [], ◌∷◌}
use Rattle.setting.specs.Allowed.{has_feature, allowed_of}
use Rattle.setting.specs.Numbers.{accept, refuse}
use Rattle.setting.specs.declared.Feature.TheVariants.{Sme2p1}
use Rattle.setting.specs.declared.Setting.{Setting}
use Rattle.encoding.specs.Decode.{decode_of}
use Rattle.encoding.specs.declared.Instruction.TheVariants.{Pext, Psel, Luti4c, Luti4s, Narrow}

-- VL 128, all features on
abbrev pub board : Setting
board = record { vl = 128; features = 31 }

abbrev pub reading_points : List (Type 0)
reading_points =
    -- 1: c08a9000, c08a8000, c08ab000
    (decode_of board 0xc08a9000 ≡ accept (Luti4c 16 0 0 0))
    ∷ (decode_of board 0xc08a8000 ≡ refuse 3)
    ∷ (decode_of board 0xc08ab000 ≡ refuse 3)
    -- 2, under every allowed setting: c09a9000 with and without SME2p1, c09aa000
    ∷ ((s : Setting) → allowed_of s ≡ true → has_feature s.features Sme2p1 ≡ true → decode_of s 0xc09a9000 ≡ accept (Luti4s 16 0 0 0))
    ∷ ((s : Setting) → allowed_of s ≡ true → has_feature s.features Sme2p1 ≡ false → decode_of s 0xc09a9000 ≡ refuse 3)
    ∷ ((s : Setting) → allowed_of s ≡ true → decode_of s 0xc09aa000 ≡ refuse 3)
    -- 3: 45283800, 452f3800, 45603800, 457f3800, 45203800
    ∷ (decode_of board 0x45283800 ≡ accept (Narrow true true true false 8 8 0 0))
    ∷ (decode_of board 0x452f3800 ≡ accept (Narrow true true true false 8 1 0 0))
    ∷ (decode_of board 0x45603800 ≡ accept (Narrow true true true false 32 32 0 0))
    ∷ (decode_of board 0x457f3800 ≡ accept (Narrow true true true false 32 1 0 0))
    ∷ (decode_of board 0x45203800 ≡ refuse 3)
    -- 10, its reading: 252c4000, 25e04000
    ∷ (decode_of board 0x252c4000 ≡ accept (Psel 8 1 12 0 0 0))
    ∷ (decode_of board 0x25e04000 ≡ accept (Psel 64 1 12 0 0 0))
    ∷ []

-- document 02, request 8: PEXT of one portion is read by the layout with imm2, and of two, from 2 · i1 on, by the one with i1
-- request 2: PSEL's Pn and Pm are bits 13:10 and 8:5, and SME or SVE2p1 is enough; SVE2 alone, feature number 1, is not
abbrev pub predicate_readings : List (Type 0)
predicate_readings =
    (decode_of board 0x25207332 ≡ accept (Pext 8 3 1 9 2))
    ∷ (decode_of board 0x25607532 ≡ accept (Pext 16 2 2 9 2))
    ∷ (decode_of board 0x25244443 ≡ accept (Psel 8 0 12 1 2 3))
    ∷ (decode_of (record { vl = 128; features = 3 }) 0x25244443 ≡ accept (Psel 8 0 12 1 2 3))
    ∷ (decode_of (record { vl = 128; features = 4 }) 0x25244443 ≡ accept (Psel 8 0 12 1 2 3))
    ∷ (decode_of (record { vl = 128; features = 1 }) 0x25244443 ≡ refuse 3)
    ∷ (decode_of (record { vl = 128; features = 0 }) 0x25244443 ≡ refuse 3)
    ∷ []
