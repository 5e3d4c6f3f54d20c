-- Document 01, "The lister": the name of what a word was read as.
use Rattle.std.specs.Prelude.{List, [], ◌∷◌, ℕ}
use Rattle.setting.specs.Numbers.{Outcome, accept, refuse}
use Rattle.encoding.specs.Instructions.{raw_of}
use Rattle.encoding.specs.Rows.{row_of}
use Rattle.encoding.specs.declared.Instruction.{Instruction}

-- UNDEFINED
abbrev pub undefined : List ℕ
undefined = 85 ∷ 78 ∷ 68 ∷ 69 ∷ 70 ∷ 73 ∷ 78 ∷ 69 ∷ 68 ∷ []

-- its row's, by its fields
abbrev pub name_in : Outcome Instruction → List ℕ
name_in (accept i) = (row_of i).name (raw_of i)
name_in (refuse n) = undefined
