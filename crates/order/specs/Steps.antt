-- Document 01, "A run takes a stretch", on any machine: words stepped from the first.
use Rattle.std.specs.Prelude.{List, [], ◌∷◌, ℕ, zero, suc}

-- the number that a run answers, how many words were done, and the machine as those words left it
pub record Ended (M : Type 0) : Type 0 where
  pub answer : ℕ
  pub done : ℕ
  pub left : M

module _ {M : Type 0} (refusal : ℕ → M → ℕ) (exec : ℕ → M → M) where
  -- the run stops before the first refused word; n words are done already
  unfoldable pub steps : List ℕ → ℕ → M → Ended M
  steps [] n m = record { answer = 0; done = n; left = m }
  steps (w ∷ ws) n m = elim (refusal w m) [ zero ↦ steps ws (suc n) (exec w m) | suc k ↦ record { answer = suc k; done = n; left = m } ]
