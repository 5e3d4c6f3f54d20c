-- Document 01, "Layouts", the first two, the third and the last as document 02, requests 8, 2 and 1, have them: the six rows of the table, each a layout with its features, its field condition, what its fields are read as, and its name.
use Rattle.std.specs.Prelude.{Bool, true, not, ◌&&◌, ◌||◌, List, [], ◌∷◌, ℕ, ◌+◌, ◌*◌, eqb}
use Rattle.logic.specs.Pick.{pick}
use Rattle.setting.specs.Allowed.{has_any}
use Rattle.setting.specs.declared.Feature.{Feature}
use Rattle.setting.specs.declared.Feature.TheVariants.{Sve2, Sve2p1, Sme, Sme2, Sme2p1}
use Rattle.encoding.specs.Layout.{Piece, fix, var, fields_of, matches}
use Rattle.encoding.specs.Instructions.{raw, read_pext, read_psel, read_luti4c, read_luti4s, narrow_tsz, read_narrow}
use Rattle.encoding.specs.Names.{narrow_name}
use Rattle.encoding.specs.declared.Instruction.{Instruction}
use Rattle.encoding.specs.declared.Instruction.TheVariants.{Pext, Psel, Luti4c, Luti4s, Narrow}

pub record Row : Type 0 where
  pub layout : List Piece
  -- one of them is enough
  pub features : List Feature
  -- the rest is of the raw fields; a name is in ASCII
  pub condition : List ℕ → Bool
  pub reading : List ℕ → Instruction
  pub name : List ℕ → List ℕ

-- PEXT of so many portions by a layout of its own; document 01 has its two rows as forms, PEXT1 and PEXT2
abbrev pub pext_row : ℕ → List Piece → Row
pext_row portions pieces = record {
  layout = pieces;
  features = Sme2 ∷ Sve2p1 ∷ [];
  condition = λ xs. true;
  reading = read_pext portions;
  -- PEXT and the digit of their number
  name = λ xs. 80 ∷ 69 ∷ 88 ∷ 84 ∷ (48 + portions) ∷ [];
}

-- 00100101 <size:2> 10000001110 0 <imm2> <PNn:3> 1 <Pd:4>
abbrev pub pext1 : Row
pext1 = pext_row 1 (fix 8 0b00100101 ∷ var 2 ∷ fix 11 0b10000001110 ∷ fix 1 0b0 ∷ var 2 ∷ var 3 ∷ fix 1 0b1 ∷ var 4 ∷ [])

-- 00100101 <size:2> 10000001110 1 0 <i1> <PNn:3> 1 <Pd:4>
abbrev pub pext2 : Row
pext2 = pext_row 2 (fix 8 0b00100101 ∷ var 2 ∷ fix 11 0b10000001110 ∷ fix 1 0b1 ∷ fix 1 0b0 ∷ var 1 ∷ var 3 ∷ fix 1 0b1 ∷ var 4 ∷ [])

-- 00100101 <i1> <tszh> 1 <tszl:3> <Rv:2> 01 <Pn:4> 0 <Pm:4> 0 <Pd:4>; tszh:tszl not 0000
-- document 01 has a withdrawn draft of it, DUP, and calls Rv there Rm, Pn there Pg, and Pm there Pn
abbrev pub psel : Row
psel = record {
  layout = fix 8 0b00100101 ∷ var 1 ∷ var 1 ∷ fix 1 0b1 ∷ var 3 ∷ var 2 ∷ fix 2 0b01 ∷ var 4 ∷ fix 1 0b0 ∷ var 4 ∷ fix 1 0b0 ∷ var 4 ∷ [];
  features = Sme ∷ Sve2p1 ∷ [];
  condition = λ xs. not (eqb (raw xs 1 * 8 + raw xs 2) 0);
  reading = read_psel;
  -- PSEL
  name = λ xs. 80 ∷ 83 ∷ 69 ∷ 76 ∷ [];
}

-- 1100000010001 01 <i1> 10 <size:2> 00 <Zn:5> <Zd:3> 00; size 01 or 10
abbrev pub luti4c : Row
luti4c = record {
  layout = fix 13 0b1100000010001 ∷ fix 2 0b01 ∷ var 1 ∷ fix 2 0b10 ∷ var 2 ∷ fix 2 0b00 ∷ var 5 ∷ var 3 ∷ fix 2 0b00 ∷ [];
  features = Sme2 ∷ [];
  condition = λ xs. eqb (raw xs 1) 1 || eqb (raw xs 1) 2;
  reading = read_luti4c;
  -- LUTI4C
  name = λ xs. 76 ∷ 85 ∷ 84 ∷ 73 ∷ 52 ∷ 67 ∷ [];
}

-- 1100000010011 01 <i1> 10 <size:2> 00 <Zn:5> <D> 00 <Zd:2>; size 01
abbrev pub luti4s : Row
luti4s = record {
  layout = fix 13 0b1100000010011 ∷ fix 2 0b01 ∷ var 1 ∷ fix 2 0b10 ∷ var 2 ∷ fix 2 0b00 ∷ var 5 ∷ var 1 ∷ fix 2 0b00 ∷ var 2 ∷ [];
  features = Sme2p1 ∷ [];
  condition = λ xs. eqb (raw xs 1) 1;
  reading = read_luti4s;
  -- LUTI4S
  name = λ xs. 76 ∷ 85 ∷ 84 ∷ 73 ∷ 52 ∷ 83 ∷ [];
}

-- 010001010 <tszh> 1 <tszl:2> <imm3> 00 <op> <U> <R> <T> <Zn:5> <Zd:5>; tszh:tszl not 000
abbrev pub narrow : Row
narrow = record {
  layout = fix 9 0b010001010 ∷ var 1 ∷ fix 1 0b1 ∷ var 2 ∷ var 3 ∷ fix 2 0b00 ∷ var 1 ∷ var 1 ∷ var 1 ∷ var 1 ∷ var 5 ∷ var 5 ∷ [];
  features = Sve2 ∷ Sme ∷ [];
  condition = λ xs. not (eqb (narrow_tsz xs) 0);
  reading = read_narrow;
  -- SQSHRUNB to UQRSHRNT
  name = narrow_name;
}

abbrev pub rows : List Row
rows = pext1 ∷ pext2 ∷ psel ∷ luti4c ∷ luti4s ∷ narrow ∷ []

-- the row that an instruction is written by, and its place in the table, from 0
abbrev pub row_of : Instruction → Row
row_of (Pext size first portions counter pd) = pick (eqb portions 2) pext2 pext1
row_of (Psel size offset index pn pm pd) = psel
row_of (Luti4c size i1 zn zd) = luti4c
row_of (Luti4s size i1 zn zd) = luti4s
row_of (Narrow op u r t size shift zn zd) = narrow

abbrev pub place_of : Instruction → ℕ
place_of (Pext size first portions counter pd) = pick (eqb portions 2) 1 0
place_of (Psel size offset index pn pm pd) = 2
place_of (Luti4c size i1 zn zd) = 3
place_of (Luti4s size i1 zn zd) = 4
place_of (Narrow op u r t size shift zn zd) = 5

-- the row's layout, feature and field condition all match the word
abbrev pub row_matches : Row → ℕ → ℕ → Bool
row_matches r f w = matches r.layout w && has_any f r.features && r.condition (fields_of r.layout w)
