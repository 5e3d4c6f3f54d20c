-- Document 01, "Numbers the bench answers with": what `claims` promises of the numbers.
use Rattle.std.specs.Prelude.{◌≡◌}
use Rattle.setting.specs.Numbers.{Answer, number_of}

-- no two answers have one number
abbrev pub NumbersApart : Type 0
NumbersApart = (a b : Answer) → number_of a ≡ number_of b → a ≡ b

-- document 02, request 3: the number 7 is not used again
abbrev pub SevenUnused : Type 0
SevenUnused = (a : Answer) → number_of a ≡ 7 → ⊥

pub record Claims : Type 0 where
  pub numbers_apart : NumbersApart
  pub seven_unused : SevenUnused
