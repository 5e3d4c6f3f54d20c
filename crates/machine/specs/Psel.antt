-- PSEL, whose row is `psel`: all of Pn if the chosen element of Pm is true, else zeros.
use Rattle.std.specs.Prelude.{[], ◌∷◌, ℕ, ◌+◌, get_or}
use Rattle.psel.specs.Psel.{psel_of}
use Rattle.machine.specs.Machine.{P, W}
use Rattle.machine.specs.Needs.{need}
use Rattle.machine.specs.Effect.{Effect, contents}

abbrev pub psel_effect : ℕ → ℕ → ℕ → ℕ → ℕ → ℕ → Effect
psel_effect size offset index pn pm pd = record {
  needs = λ s f. need 4 f.v ∷ [];
  reads = P pn ∷ P pm ∷ W index ∷ [];
  writes = P pd ∷ [];
  gives = λ vl cs. psel_of vl size (get_or (contents cs 2) 0 0 + offset) (contents cs 0) (contents cs 1) ∷ [];
}
