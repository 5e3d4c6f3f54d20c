-- Document 01, "Points on the board": starred cases 7 and 8, over the whole expansion of 4·PL bits. The crate pext has 6 and 9.
use Rattle.std.specs.Prelude.{◌≡◌, true, List, [], ◌∷◌, ◌++◌, ℕ, ◌*◌, ◌/◌, ◌^◌, replicate}
use Rattle.setting.specs.Allowed.{length_allowed}
use Rattle.logic.specs.Every.{Every}
use Rattle.counter.specs.Counter.{top_bit, expansion_of}

abbrev pub counter_points : List (Type 0)
counter_points =
    -- 7: 8001 is all true; 0001 and 8000 are all false
    (expansion_of 128 0x8001 ≡ replicate 8 0xff)
    ∷ (expansion_of 128 0x0001 ≡ replicate 8 0x00)
    ∷ (expansion_of 128 0x8000 ≡ replicate 8 0x00)
    -- 8: 0081 is all false at VL 128; at VL 256 its first 64 elements are true, and no other
    ∷ (expansion_of 128 0x0081 ≡ replicate 8 0x00)
    ∷ (expansion_of 256 0x0081 ≡ replicate 8 0xff ++ replicate 8 0x00)
    ∷ []

-- m is the number that document 01 names by 2^m = 4·PL, PL being VL/8
abbrev pub TopBit : Type 0
TopBit = (vl : ℕ) → length_allowed vl ≡ true → 2 ^ top_bit vl ≡ 4 * (vl / 8)

pub record Claims : Type 0 where
  pub top_bit : TopBit
  pub points : Every counter_points
