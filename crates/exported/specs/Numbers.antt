-- Document 01, "Numbers the bench answers with": what is told over C as an outcome, an outcome as its number, and a yes as 1.
use Rattle.std.specs.Prelude.{Bool, true, false, ℕ, Result, Ok, Err}
use Rattle.setting.specs.Numbers.{Answer, number_of, Outcome, accept, refuse}

-- what is told: a value, or any answer in place of one, done too
abbrev pub outcome_as : {A : Type 0} → Result A Answer → Outcome A
outcome_as (Ok a) = accept a
outcome_as (Err answer) = refuse (number_of answer)

-- 0 for what is accepted
abbrev pub number_in : {A : Type 0} → Outcome A → ℕ
number_in (accept a) = 0
number_in (refuse n) = n

-- 1 for yes; 0 for no, and where the question is refused
abbrev pub yes_in : Outcome Bool → ℕ
yes_in (accept true) = 1
yes_in (accept false) = 0
yes_in (refuse n) = 0
