-- Document 01, "What a word touches": a rearrangement lists each position of the stretch exactly once; which one is permitted.
use Rattle.std.specs.Prelude.{◌≡◌, Bool, true, false, List, [], ◌∷◌, map, ℕ, suc, ◌≤◌, ◌<◌, eqb, length, get_or}

abbrev pub bump : Bool → ℕ → ℕ
bump true n = suc n
bump false n = n

-- how often i stands in a list
unfoldable pub count : ℕ → List ℕ → ℕ
count i [] = 0
count i (j ∷ js) = bump (eqb i j) (count i js)

abbrev pub later : Bool → ℕ → ℕ
later true n = 0
later false n = suc n

-- the place of i in a list, from 0: how many entries stand before the first i
unfoldable pub place : ℕ → List ℕ → ℕ
place i [] = 0
place i (j ∷ js) = later (eqb i j) (place i js)

-- the order lists each position of a stretch of n words exactly once, and nothing else
pub record Rearrangement (n : ℕ) (order : List ℕ) : Type 0 where
  pub once : (i : ℕ) → i < n → count i order ≡ 1
  pub none : (i : ℕ) → n ≤ i → count i order ≡ 0

-- of any two positions whose words conflict, the earlier still comes first; copies of a word are positions of their own
pub record Permitted (conflict : ℕ → ℕ → Bool) (words order : List ℕ) : Type 0 where
  pub first : (i j : ℕ) → i < j → j < length words → conflict (get_or words i 0) (get_or words j 0) ≡ true → place i order < place j order

-- the words of a stretch in the new order
unfoldable pub rearranged : List ℕ → List ℕ → List ℕ
rearranged words order = map (λ i. get_or words i 0) order
