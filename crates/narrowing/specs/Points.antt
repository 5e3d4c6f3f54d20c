-- Document 01, "Points on the board": the starred cases 4 and 5, as one list, and beside it points of the other words of the family.
use Rattle.std.specs.Prelude.{◌≡◌, Bool, true, false, List, [], ◌∷◌, ℕ, ◌-◌, ◌^◌}
use Rattle.narrowing.specs.Narrowing.{Form, form, value, stored}
use Rattle.narrowing.specs.Registers.{element}

-- the s bits that a form stores for the element x
abbrev pub narrowed : Form → Bool → ℕ → ℕ → ℕ → ℕ
narrowed f r s shift x = stored f r s shift (value f s x)

abbrev pub narrow_points : List (Type 0)
narrow_points =
    -- 4: UQRSHRN, s 8, shift 8: 007f, 0080, ff7f, ff80
    (narrowed (form true true) true 8 8 0x007f ≡ 0)
    ∷ (narrowed (form true true) true 8 8 0x0080 ≡ 1)
    ∷ (narrowed (form true true) true 8 8 0xff7f ≡ 255)
    ∷ (narrowed (form true true) true 8 8 0xff80 ≡ 255)
    -- 5: s 32, shift 1
    ∷ (narrowed (form true true) true 32 1 (2 ^ 64 - 1) ≡ 2 ^ 32 - 1)
    ∷ []

abbrev pub family_points : List (Type 0)
family_points =
    -- SQSHRN, shift 1: -1 and -3 go towards minus infinity, to -1 and -2; SQRSHRN: the tie of -1 goes to 0
    (narrowed (form true false) false 8 1 0xffff ≡ 0xff)
    ∷ (narrowed (form true false) false 8 1 0xfffd ≡ 0xfe)
    ∷ (narrowed (form true false) true 8 1 0xffff ≡ 0)
    -- SQRSHRN, shift 8: 32767 rounds to 128 and is cut to 127; -32768 is -128
    ∷ (narrowed (form true false) true 8 8 0x7fff ≡ 0x7f)
    ∷ (narrowed (form true false) true 8 8 0x8000 ≡ 0x80)
    -- SQSHRN, shift 1: -32768 is cut to -128
    ∷ (narrowed (form true false) false 8 1 0x8000 ≡ 0x80)
    -- SQRSHRUN, shift 8: 32767 rounds to 128; -129 rounds to -1 and is cut to 0. SQSHRUN, shift 1: 32767 is cut to 255, -1 to 0
    ∷ (narrowed (form false false) true 8 8 0x7fff ≡ 0x80)
    ∷ (narrowed (form false false) true 8 8 0xff7f ≡ 0)
    ∷ (narrowed (form false false) false 8 1 0x7fff ≡ 0xff)
    ∷ (narrowed (form false false) false 8 1 0xffff ≡ 0)
    -- SHRN keeps the low half: of 1234 by 4, and of ffff by 1; RSHRN of ffff by 1 carries past it
    ∷ (narrowed (form false true) false 8 4 0x1234 ≡ 0x23)
    ∷ (narrowed (form false true) false 8 1 0xffff ≡ 0xff)
    ∷ (narrowed (form false true) true 8 1 0xffff ≡ 0)
    -- UQSHRN, shift 8: ffff does not round
    ∷ (narrowed (form true true) false 8 8 0xffff ≡ 0xff)
    -- of 64 bits: the greatest and the least number with a sign, and all ones
    ∷ (narrowed (form true false) true 32 1 (2 ^ 63 - 1) ≡ 2 ^ 31 - 1)
    ∷ (narrowed (form true false) true 32 32 (2 ^ 63) ≡ 2 ^ 31)
    ∷ (narrowed (form false false) true 32 32 (2 ^ 63 - 1) ≡ 2 ^ 31)
    ∷ (narrowed (form true false) false 32 32 (2 ^ 64 - 1) ≡ 2 ^ 32 - 1)
    ∷ (narrowed (form false true) true 32 1 (2 ^ 64 - 1) ≡ 0)
    -- SQSHRNB and SQSHRNT of ff00 by 8 over 1234
    ∷ (element (form true false) false false 8 8 0xff00 0x1234 ≡ 0x00ff)
    ∷ (element (form true false) false true 8 8 0xff00 0x1234 ≡ 0xff34)
    ∷ []
