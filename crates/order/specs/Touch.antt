-- Document 01, "What a word touches", on any registers: conflict, and a word done as new contents of what it writes from the contents of what it reads.
use Rattle.std.specs.Prelude.{◌≡◌, Bool, false, ◌||◌, List, [], ◌∷◌, ◌++◌, map, ℕ}

-- a register stands in a list; two lists have a register in common
unfoldable pub holds : {R : Type 0} → (R → R → Bool) → R → List R → Bool
holds same r [] = false
holds same r (s ∷ ss) = same r s || holds same r ss

unfoldable pub meet : {R : Type 0} → (R → R → Bool) → List R → List R → Bool
meet same [] ss = false
meet same (r ∷ rs) ss = holds same r ss || meet same rs ss

-- two words conflict when one writes a register that the other reads or writes
unfoldable pub conflicting : {R : Type 0} → (R → R → Bool) → (ℕ → List R) → (ℕ → List R) → ℕ → ℕ → Bool
conflicting same reads writes v w =
    meet same (writes v) (reads w ++ writes w) || meet same (writes w) (reads v ++ writes v)

-- the contents of some registers; new contents for some registers, the first for the first
unfoldable pub gets : {M R C : Type 0} → (R → M → C) → List R → M → List C
gets get rs m = map (λ r. get r m) rs

unfoldable pub puts : {M R C : Type 0} → (R → C → M → M) → List R → List C → M → M
puts put [] vs m = m
puts put (r ∷ rs) [] m = m
puts put (r ∷ rs) (v ∷ vs) m = puts put rs vs (put r v m)

-- a word done: new contents, all taken from the machine as it was, go into the registers that it writes; then the counter moves
unfoldable pub perform : {M R C : Type 0} → (R → C → M → M) → (M → M) → (ℕ → List R) → (ℕ → M → List C) → ℕ → M → M
perform put next writes effect w m = next (puts put (writes w) (effect w m) m)

-- new contents that are a function of the contents of what the word reads
abbrev pub from_reads : {M R C : Type 0} → (R → M → C) → (ℕ → List R) → (ℕ → List C → List C) → ℕ → M → List C
from_reads get reads gives w m = gives w (gets get (reads w) m)

-- what is asked of registers: two that are not the same do not see each other, and the counter and the flags stand apart
pub record SeparateRegisters {M R C F : Type 0} (same : R → R → Bool) (get : R → M → C) (put : R → C → M → M) (next : M → M) (flags : M → F) : Type 0 where
  pub get_put : (r s : R) (v : C) (m : M) → same s r ≡ false → get r (put s v m) ≡ get r m
  pub put_put : (r s : R) (u v : C) (m : M) → same r s ≡ false → put r u (put s v m) ≡ put s v (put r u m)
  pub get_next : (r : R) (m : M) → get r (next m) ≡ get r m
  pub put_next : (r : R) (v : C) (m : M) → put r v (next m) ≡ next (put r v m)
  pub flags_put : (r : R) (v : C) (m : M) → flags (put r v m) ≡ flags m
  pub flags_next : (m : M) → flags (next m) ≡ flags m
