-- Document 01, "for reading a word 1, 3": what a word is read as under a setting.
use Rattle.std.specs.Prelude.{List, [], ◌∷◌, map, ℕ, get_or, Result, Ok, Err}
use Rattle.setting.specs.Allowed.{allowed_of}
use Rattle.setting.specs.Numbers.{Outcome, accept, refuse, refusal_number}
use Rattle.setting.specs.declared.Refusal.{Refusal}
use Rattle.setting.specs.declared.Setting.{Setting}
use Rattle.logic.specs.Pick.{pick}
use Rattle.encoding.specs.Layout.{fields_of}
use Rattle.encoding.specs.Rows.{Row, rows, row_matches}
use Rattle.encoding.specs.declared.Instruction.{Instruction}

-- the fields of the first row that matches; 3 where none does
abbrev pub first_of : List Row → ℕ → ℕ → Outcome Instruction
first_of [] f w = refuse 3
first_of (r ∷ rs) f w = pick (row_matches r f w) (accept (r.reading (fields_of r.layout w))) (first_of rs f w)

-- what the row at a place of the table, from 0, reads; 3 past its end
abbrev pub read_at : List Row → ℕ → ℕ → Outcome Instruction
read_at rs k w = get_or (map (λ (r : Row). accept (r.reading (fields_of r.layout w))) rs) k (refuse 3)

unfoldable pub decode_of : Setting → ℕ → Outcome Instruction
decode_of s w = pick (allowed_of s) (first_of rows s.features w) (refuse 1)

-- the number and values of what `decode` answers
abbrev pub decoded_as : Result Instruction Refusal → Outcome Instruction
decoded_as (Ok i) = accept i
decoded_as (Err refusal) = refuse (refusal_number refusal)
