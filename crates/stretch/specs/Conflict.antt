-- Document 01, "What a word touches": whether two words conflict under a setting, or 1 or 3 if either can't be read (the first word's answer first).
use Rattle.std.specs.Prelude.{Bool, true, false, ℕ, Result, Ok, Err}
use Rattle.setting.specs.Numbers.{Outcome, accept, refuse, refusal_number}
use Rattle.setting.specs.declared.Setting.{Setting}
use Rattle.setting.specs.declared.Refusal.{Refusal}
use Rattle.order.specs.Banks.{same_register}
use Rattle.order.specs.Touch.{conflicting}
use Rattle.encoding.specs.Decode.{decode_of}
use Rattle.machine.specs.Step.{over_word, reads, writes}

-- one of the two words writes a register that the other reads or writes
abbrev pub conflict : Setting → ℕ → ℕ → Bool
conflict s = conflicting same_register (reads s) (writes s)

-- the word can be read
abbrev pub is_read : Setting → ℕ → Bool
is_read s w = over_word false (λ i. true) (decode_of s w)

-- a refused reading goes before the answer
abbrev pub if_read : {A B : Type 0} → Outcome A → Outcome B → Outcome B
if_read (accept a) o = o
if_read (refuse n) o = refuse n

unfoldable pub conflict_of : Setting → ℕ → ℕ → Outcome Bool
conflict_of s v w = if_read (decode_of s v) (if_read (decode_of s w) (accept (conflict s v w)))

-- the number and value of what a question about words answers
abbrev pub reply_as : Result Bool Refusal → Outcome Bool
reply_as (Ok b) = accept b
reply_as (Err a) = refuse (refusal_number a)
