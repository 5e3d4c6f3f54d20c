-- Decoding and encoding undo each other over the C interface too, and no list of an older interface is read as another word.
use Rattle.std.specs.Prelude.{◌≡◌, [], ◌∷◌, map, ℕ}
use Rattle.logic.specs.Every.{Every}
use Rattle.setting.specs.Numbers.{accept, refuse}
use Rattle.encoding.specs.declared.Instruction.{Instruction}
use Rattle.numbers.specs.Fields.{numbers_of, instruction_at, instruction_of}

-- the seven numbers of an instruction are read back as that instruction, so what `gighull_decode` leaves can be lent to `gighull_encode`
abbrev pub NumbersRead : Type 0
NumbersRead = (i : Instruction) → instruction_of (numbers_of i) ≡ accept i

-- a list of the forms that were is no instruction's
abbrev pub RetiredUnused : Type 0
RetiredUnused = Every (map (λ (form : ℕ). (a b c d e f : ℕ) → instruction_at form a b c d e f ≡ refuse 9) (0 ∷ 1 ∷ 5 ∷ []))

pub record Claims : Type 0 where
  pub numbers_read : NumbersRead
  pub retired_unused : RetiredUnused
