-- Document 01, "for one step 1, 2, 3, then 4 or 5, 6" (document 02, request 3: the order ends at 6): what one word is refused for, and what it leaves.
use Rattle.std.specs.Prelude.{Bool, ◌&&◌, List, [], ℕ, zero, suc, eqb, length}
use Rattle.setting.specs.Allowed.{allowed_of}
use Rattle.setting.specs.Numbers.{Outcome, accept, refuse, number_of}
use Rattle.setting.specs.declared.Setting.{Setting}
use Rattle.logic.specs.Pick.{pick}
use Rattle.element.specs.Files.{vector_file, predicate_file, table_file}
use Rattle.order.specs.Banks.{Register}
use Rattle.order.specs.Touch.{perform, from_reads}
use Rattle.encoding.specs.Decode.{decode_of}
use Rattle.encoding.specs.declared.Instruction.{Instruction}
use Rattle.machine.specs.Machine.{Machine, machine, get, put, next, Flags, flags_of}
use Rattle.machine.specs.Needs.{first_failed}
use Rattle.machine.specs.Effects.{effect_of}
use Rattle.machine.specs.declared.Scalars.{Scalars}
use Rattle.machine.specs.declared.Stepped.{Stepped}

-- 2: each file has its length
abbrev pub lengths_are : ℕ → ℕ → ℕ → Bool
lengths_are z p zt = eqb z vector_file && eqb p predicate_file && eqb zt table_file

abbrev pub sized : Machine → Bool
sized m = lengths_are (length m.z) (length m.p) (length m.zt)

-- what a word reads, writes and gives; nothing where it cannot be read
abbrev pub over_word : {A : Type 0} → A → (Instruction → A) → Outcome Instruction → A
over_word d f (accept i) = f i
over_word d f (refuse n) = d

abbrev pub reads : Setting → ℕ → List Register
reads s w = over_word [] (λ i. (effect_of i).reads) (decode_of s w)

abbrev pub writes : Setting → ℕ → List Register
writes s w = over_word [] (λ i. (effect_of i).writes) (decode_of s w)

abbrev pub gives : Setting → ℕ → List (List ℕ) → List (List ℕ)
gives s w = over_word (λ cs. []) (λ i. (effect_of i).gives s.vl) (decode_of s w)

-- 3, or what of the flags is missing
abbrev pub verdict : Setting → Flags → Outcome Instruction → ℕ
verdict s f (accept i) = first_failed ((effect_of i).needs s f)
verdict s f (refuse n) = n

unfoldable pub refusal_of : Setting → ℕ → Machine → ℕ
refusal_of s w m = pick (allowed_of s) (pick (sized m) (verdict s (flags_of m) (decode_of s w)) 2) 1

unfoldable pub exec_of : Setting → ℕ → Machine → Machine
exec_of s = perform (put s.vl) next (writes s) (from_reads (get s.vl) (reads s) (gives s))

-- the number, and the machine as the step leaves it: as it was where the number is not 0
pub record Step : Type 0 where
  pub number : ℕ
  pub left : Machine

abbrev pub after : ℕ → Setting → ℕ → Machine → Step
after zero s w m = record { number = 0; left = exec_of s w m }
after (suc k) s w m = record { number = suc k; left = m }

unfoldable pub step_of : Setting → ℕ → Machine → Step
step_of s w m = after (refusal_of s w m) s w m

-- a number, the files and the scalars as a step
abbrev pub step_as : ℕ → List ℕ → List ℕ → List ℕ → Scalars → Step
step_as n z p zt c = record { number = n; left = machine z p zt c }

-- what `step` answers, with the files at exit
abbrev pub stepped_as : Stepped → List ℕ → List ℕ → List ℕ → Step
stepped_as r z p zt = step_as (number_of r.answer) z p zt r.scalars
