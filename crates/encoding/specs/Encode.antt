-- Document 01, "for writing a word 1, 9, 3": the word that an instruction is written as under a setting.
use Rattle.std.specs.Prelude.{ℕ, Result, Ok, Err}
use Rattle.setting.specs.Allowed.{has_any, allowed_of}
use Rattle.setting.specs.Numbers.{refusal_number}
use Rattle.setting.specs.declared.Refusal.{Refusal}
use Rattle.setting.specs.declared.Setting.{Setting}
use Rattle.logic.specs.Pick.{pick}
use Rattle.encoding.specs.Layout.{word_of}
use Rattle.encoding.specs.Instructions.{in_range, raw_of}
use Rattle.encoding.specs.Rows.{row_of}
use Rattle.encoding.specs.declared.Instruction.{Instruction}

-- a number and a word: the word is 0 where the number is not
pub record Written : Type 0 where
  pub number : ℕ
  pub word : ℕ

abbrev pub written : ℕ → Written
written w = record { number = 0; word = w }

abbrev pub unwritten : ℕ → Written
unwritten n = record { number = n; word = 0 }

unfoldable pub encode_of : Setting → Instruction → Written
encode_of s i =
    pick (allowed_of s)
    (pick (in_range i)
    (pick (has_any s.features (row_of i).features) (written (word_of (row_of i).layout (raw_of i))) (unwritten 3))
    (unwritten 9))
    (unwritten 1)

-- the number and values of what `encode` answers
abbrev pub encoded_as : Result ℕ Refusal → Written
encoded_as (Ok w) = written w
encoded_as (Err refusal) = unwritten (refusal_number refusal)
