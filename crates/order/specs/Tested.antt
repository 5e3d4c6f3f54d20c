-- Document 01, "What a word touches": "lists each position exactly once" and "the earlier still comes first" as tests over all positions.
use Rattle.std.specs.Prelude.{Bool, not, ◌&&◌, ◌||◌, List, ℕ, eqb, ltb, length, get_or}
use Rattle.logic.specs.Every.{all}
use Rattle.order.specs.Rearranged.{count, place}

-- the order is as long as the stretch, and each position stands in it once
unfoldable pub rearranges : ℕ → List ℕ → Bool
rearranges n order = eqb (length order) n && all (λ i. eqb (count i order) 1) n

-- the words at i and j do not conflict, or i comes before j in the order
abbrev pub keeps : (ℕ → ℕ → Bool) → List ℕ → List ℕ → ℕ → ℕ → Bool
keeps conflict words order i j = not (conflict (get_or words i 0) (get_or words j 0)) || ltb (place i order) (place j order)

unfoldable pub permits : (ℕ → ℕ → Bool) → List ℕ → List ℕ → Bool
permits conflict words order = all (λ j. all (λ i. keeps conflict words order i j) j) (length words)
