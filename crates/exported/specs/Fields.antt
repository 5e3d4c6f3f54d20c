-- What a reading leaves in a list of seven numbers, and the word that is written from one.
use Rattle.std.specs.Prelude.{List, ℕ}
use Rattle.setting.specs.Allowed.{allowed_of}
use Rattle.setting.specs.Numbers.{Outcome, accept, refuse}
use Rattle.setting.specs.declared.Setting.{Setting}
use Rattle.logic.specs.Pick.{pick}
use Rattle.encoding.specs.Encode.{Written, unwritten, encode_of}
use Rattle.encoding.specs.declared.Instruction.{Instruction}
use Rattle.numbers.specs.Fields.{numbers_into, instruction_of}

-- a refused reading gives no fields
abbrev pub read_into : Outcome Instruction → List ℕ → List ℕ
read_into (accept i) out = numbers_into i out
read_into (refuse n) out = out

-- 1 before any other number
abbrev pub refused_of : Setting → ℕ → Written
refused_of s n = pick (allowed_of s) (unwritten n) (unwritten 1)

abbrev pub write_as : Setting → Outcome Instruction → Written
write_as s (accept i) = encode_of s i
write_as s (refuse n) = refused_of s n

abbrev pub write_of : Setting → List ℕ → Written
write_of s xs = write_as s (instruction_of xs)
