-- Document 01, "Fields as read": an instruction as seven numbers, its form's and its fields in the order of the definition, 0 behind them. A form keeps its number for good, and no other takes it: 0 and 1 were the two layouts of PEXT, and 5 UQRSHRNB's.
use Rattle.std.specs.Prelude.{List, [], ◌∷◌, ℕ, ◌/◌, ◌%◌, eqb, ltb, length, get_or}
use Rattle.setting.specs.Numbers.{Outcome, accept, refuse}
use Rattle.logic.specs.Pick.{pick}
use Rattle.encoding.specs.Instructions.{is_set, narrow_number}
use Rattle.encoding.specs.declared.Instruction.{Instruction}
use Rattle.encoding.specs.declared.Instruction.TheVariants.{Pext, Psel, Luti4c, Luti4s, Narrow}

-- ---- reading
abbrev pub numbers_of : Instruction → List ℕ
numbers_of (Pext size first portions counter pd) = 7 ∷ size ∷ first ∷ portions ∷ counter ∷ pd ∷ 0 ∷ []
numbers_of (Psel size offset index pn pm pd) = 2 ∷ size ∷ offset ∷ index ∷ pn ∷ pm ∷ pd ∷ []
numbers_of (Luti4c size i1 zn zd) = 3 ∷ size ∷ i1 ∷ zn ∷ zd ∷ 0 ∷ 0 ∷ []
numbers_of (Luti4s size i1 zn zd) = 4 ∷ size ∷ i1 ∷ zn ∷ zd ∷ 0 ∷ 0 ∷ []
numbers_of (Narrow op u r t size shift zn zd) = 6 ∷ narrow_number op u r t ∷ size ∷ shift ∷ zn ∷ zd ∷ 0 ∷ []

-- a list of another length than seven stays as it was
abbrev pub numbers_into : Instruction → List ℕ → List ℕ
numbers_into i out = pick (eqb (length out) 7) (numbers_of i) out

-- ---- writing
-- op:U:R:T above 15 is out of range
abbrev pub narrow_at : ℕ → ℕ → ℕ → ℕ → ℕ → Outcome Instruction
narrow_at bits size shift zn zd =
    pick (ltb bits 16) (accept (Narrow (is_set (bits / 8 % 2)) (is_set (bits / 4 % 2)) (is_set (bits / 2 % 2)) (is_set (bits % 2)) size shift zn zd)) (refuse 9)

-- and so is a number that is no form's
abbrev pub instruction_at : ℕ → ℕ → ℕ → ℕ → ℕ → ℕ → ℕ → Outcome Instruction
instruction_at form a b c d e f =
    pick (eqb form 2) (accept (Psel a b c d e f))
    (pick (eqb form 3) (accept (Luti4c a b c d))
    (pick (eqb form 4) (accept (Luti4s a b c d))
    (pick (eqb form 6) (narrow_at a b c d e)
    (pick (eqb form 7) (accept (Pext a b c d e))
    (refuse 9)))))

-- and so is a list of another length than seven
unfoldable pub instruction_of : List ℕ → Outcome Instruction
instruction_of xs = pick (eqb (length xs) 7) (instruction_at (get_or xs 0 0) (get_or xs 1 0) (get_or xs 2 0) (get_or xs 3 0) (get_or xs 4 0) (get_or xs 5 0) (get_or xs 6 0)) (refuse 9)
