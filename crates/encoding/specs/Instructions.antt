-- Document 01, "Fields as read": what a word's raw fields are read as, the ranges for writing, and the raw fields again.
use Rattle.std.specs.Prelude.{Bool, ◌&&◌, ◌||◌, List, [], ◌∷◌, ℕ, ◌+◌, ◌-◌, ◌*◌, ◌%◌, ◌/◌, ◌^◌, eqb, ltb, leb, get_or}
use Rattle.logic.specs.Pick.{pick}
use Rattle.element.specs.Size.{zeros, size_of, is_size, is_result}
use Rattle.element.specs.Units.{log_of}
use Rattle.element.specs.Contents.{digit}
use Rattle.encoding.specs.declared.Instruction.{Instruction}
use Rattle.encoding.specs.declared.Instruction.TheVariants.{Pext, Psel, Luti4c, Luti4s, Narrow}

-- ---- reading
-- raw field i, counted from the highest
abbrev pub raw : List ℕ → ℕ → ℕ
raw xs i = get_or xs i 0

-- size, imm2 or i1, PNn, Pd, of a layout for so many portions: the first is imm2 for one, and 2 · i1 for two
abbrev pub read_pext : ℕ → List ℕ → Instruction
read_pext portions xs = Pext (8 * 2 ^ raw xs 0) (portions * raw xs 1) portions (8 + raw xs 2) (raw xs 3)

-- PSEL's i1:tszh:tszl says the size by its low four bits, and the offset by those above the lowest one that is set
abbrev pub psel_offset : ℕ → ℕ
psel_offset t = t / 2 ^ (zeros t + 1)

abbrev pub psel_bits : List ℕ → ℕ
psel_bits xs = raw xs 0 * 16 + (raw xs 1 * 8 + raw xs 2)

-- i1, tszh, tszl, Rv, Pn, Pm, Pd
abbrev pub read_psel : List ℕ → Instruction
read_psel xs = Psel (size_of (psel_bits xs)) (psel_offset (psel_bits xs)) (12 + raw xs 3) (raw xs 4) (raw xs 5) (raw xs 6)

-- i1, size, Zn, Zd
abbrev pub read_luti4c : List ℕ → Instruction
read_luti4c xs = Luti4c (8 * 2 ^ raw xs 1) (raw xs 0) (raw xs 2) (4 * raw xs 3)

-- i1, size, Zn, D, Zd
abbrev pub read_luti4s : List ℕ → Instruction
read_luti4s xs = Luti4s (8 * 2 ^ raw xs 1) (raw xs 0) (raw xs 2) (16 * raw xs 3 + raw xs 4)

-- the narrowing words' tszh:tszl 001, 01x, 1xx say result sizes 8, 16, 32
abbrev pub narrow_size : ℕ → ℕ
narrow_size tsz = pick (ltb tsz 2) 8 (pick (ltb tsz 4) 16 32)

abbrev pub narrow_tsz : List ℕ → ℕ
narrow_tsz xs = raw xs 0 * 4 + raw xs 1

-- a field of one bit
abbrev pub is_set : ℕ → Bool
is_set bit = eqb bit 1

-- tszh, tszl, imm3, op, U, R, T, Zn, Zd
abbrev pub read_narrow : List ℕ → Instruction
read_narrow xs =
    Narrow (is_set (raw xs 3)) (is_set (raw xs 4)) (is_set (raw xs 5)) (is_set (raw xs 6)) (narrow_size (narrow_tsz xs)) (2 * narrow_size (narrow_tsz xs) - (narrow_tsz xs * 8 + raw xs 2)) (raw xs 7) (raw xs 8)

-- op:U:R:T as one number
abbrev pub narrow_number : Bool → Bool → Bool → Bool → ℕ
narrow_number op u r t = 8 * digit op + (4 * digit u + (2 * digit r + digit t))

-- ---- ranges for writing
-- P registers and Z registers
abbrev pub is_p : ℕ → Bool
is_p n = ltb n 16

abbrev pub is_z : ℕ → Bool
is_z n = ltb n 32

-- document 02, request 8: one of the four portions, or two from an even one on
abbrev pub is_portions : ℕ → ℕ → Bool
is_portions first portions = ltb first 4 && (eqb portions 1 || (eqb portions 2 && eqb (first % 2) 0))

abbrev pub pext_in_range : ℕ → ℕ → ℕ → ℕ → ℕ → Bool
pext_in_range size first portions counter pd = is_size size && is_portions first portions && (leb 8 counter && ltb counter 16) && is_p pd

-- PSEL's size and offset
abbrev pub is_offset : ℕ → ℕ → Bool
is_offset size offset = is_size size && ltb offset (128 / size)

abbrev pub psel_in_range : ℕ → ℕ → ℕ → ℕ → ℕ → ℕ → Bool
psel_in_range size offset index pn pm pd = is_offset size offset && (leb 12 index && ltb index 16) && (is_p pn && is_p pm && is_p pd)

abbrev pub luti_in_range : Bool → ℕ → ℕ → Bool → Bool
luti_in_range size i1 zn first = size && ltb i1 2 && is_z zn && first

abbrev pub narrow_in_range : ℕ → ℕ → ℕ → ℕ → Bool
narrow_in_range size shift zn zd = is_result size && (leb 1 shift && leb shift size) && (is_z zn && is_z zd)

abbrev pub in_range : Instruction → Bool
in_range (Pext size first portions counter pd) = pext_in_range size first portions counter pd
in_range (Psel size offset index pn pm pd) = psel_in_range size offset index pn pm pd
in_range (Luti4c size i1 zn zd) = luti_in_range (eqb size 16 || eqb size 32) i1 zn (eqb (zd % 4) 0 && leb zd 28)
in_range (Luti4s size i1 zn zd) = luti_in_range (eqb size 16) i1 zn (ltb zd 4 || (leb 16 zd && ltb zd 20))
in_range (Narrow op u r t size shift zn zd) = narrow_in_range size shift zn zd

-- ---- the raw fields that are read as these; the field of a size of 8 · 2^z bits is z
-- i1:tszh:tszl
abbrev pub raw_psel_bits : ℕ → ℕ → ℕ
raw_psel_bits size offset = offset * (size / 4) + size / 8

abbrev pub raw_psel : ℕ → ℕ → ℕ → ℕ → ℕ → List ℕ
raw_psel t index pn pm pd = t / 16 ∷ (t / 8 % 2) ∷ (t % 8) ∷ (index - 12) ∷ pn ∷ pm ∷ pd ∷ []

-- tszh:tszl:imm3 is twice the size less the shift
abbrev pub raw_narrow : Bool → Bool → Bool → Bool → ℕ → ℕ → ℕ → List ℕ
raw_narrow op u r t v zn zd = v / 32 ∷ (v / 8 % 4) ∷ (v % 8) ∷ digit op ∷ digit u ∷ digit r ∷ digit t ∷ zn ∷ zd ∷ []

abbrev pub raw_of : Instruction → List ℕ
raw_of (Pext size first portions counter pd) = log_of size ∷ first / portions ∷ (counter - 8) ∷ pd ∷ []
raw_of (Psel size offset index pn pm pd) = raw_psel (raw_psel_bits size offset) index pn pm pd
raw_of (Luti4c size i1 zn zd) = i1 ∷ log_of size ∷ zn ∷ (zd / 4) ∷ []
raw_of (Luti4s size i1 zn zd) = i1 ∷ log_of size ∷ zn ∷ (zd / 16) ∷ (zd % 16) ∷ []
raw_of (Narrow op u r t size shift zn zd) = raw_narrow op u r t (2 * size - shift) zn zd
