-- What must hold, each with the number that is answered where it does not.
use Rattle.std.specs.Prelude.{Bool, List, [], ◌∷◌, ℕ, zero, suc}
use Rattle.logic.specs.Pick.{pick}

pub record Need : Type 0 where
  pub number : ℕ
  pub holds : Bool

abbrev pub need : ℕ → Bool → Need
need n b = record { number = n; holds = b }

-- the first number of the list whose test fails, or 0
abbrev pub first_failed : List Need → ℕ
first_failed [] = 0
first_failed (n ∷ ns) = pick n.holds (first_failed ns) n.number

-- what is left of a file by a word that is answered with a number
abbrev pub if_done : ℕ → List ℕ → List ℕ → List ℕ
if_done zero done before = done
if_done (suc k) done before = before
