-- How often an entry stands in a list, where, and what is left when its first copy is taken out: by induction, an entry in the list being "counted more than 0 times".
use mathlib.Core.Path.{◌≡◌, refl, sym, ◌∙◌, ap}
use mathlib.Core.Bool.{Bool, true, false}
use mathlib.Core.List.{List, [], ◌∷◌}
use Prim.Native.Nat.{ℕ, suc, ◌≤◌, ◌<◌}
use native.Mathlib.Nat.{not-suc-le-zero}
use native.Mathlib.Omega.{arith}
use native.Mathlib.Decide.{ℕ_discrete}
use lib.Dec.{eqb}
use lib.ListN.{length}
use borrow.Author.Tests.{eq-eqb, ne_eqb}
use Rattle.order.specs.Rearranged.{bump, count, place}

pub count_same : (i : ℕ) (js : List ℕ) → count i (i ∷ js) ≡ suc (count i js)
unfolding count
count_same i js = rw (eq-eqb i i refl)

pub count_tail : (i j : ℕ) (js : List ℕ) → count i js ≤ count i (j ∷ js)
unfolding count
count_tail i j js = go (eqb i j)
  where
    go : (b : Bool) → count i js ≤ bump b (count i js)
    go true = omega arith
    go false = omega arith

pub place_same : (i : ℕ) (js : List ℕ) → place i (i ∷ js) ≡ 0
unfolding place
place_same i js = rw (eq-eqb i i refl)

pub place_other : (i j : ℕ) (js : List ℕ) → (i ≡ j → ⊥) → place i (j ∷ js) ≡ suc (place i js)
unfolding place
place_other i j js h = rw (ne_eqb i j h)

-- a list without its first q
without : Bool → ℕ → List ℕ → List ℕ → List ℕ
without true x xs ys = xs
without false x xs ys = x ∷ ys

pub remove : ℕ → List ℕ → List ℕ
remove q [] = []
remove q (x ∷ xs) = without (eqb q x) x xs (remove q xs)

pub remove_same : (q : ℕ) (xs : List ℕ) → remove q (q ∷ xs) ≡ xs
unfolding remove without
remove_same q xs = rw (eq-eqb q q refl)

pub remove_other : (q x : ℕ) (xs : List ℕ) → (q ≡ x → ⊥) → remove q (x ∷ xs) ≡ x ∷ remove q xs
unfolding remove without
remove_other q x xs h = rw (ne_eqb q x h)

bump_comm : (a b : Bool) (n : ℕ) → bump a (bump b n) ≡ bump b (bump a n)
bump_comm true true n = refl
bump_comm true false n = refl
bump_comm false true n = refl
bump_comm false false n = refl

bump_inj : (b : Bool) (m n : ℕ) → bump b m ≡ bump b n → m ≡ n
bump_inj true m n h = omega arith
bump_inj false m n h = h

pub count_remove : (x q : ℕ) (ps : List ℕ) → 0 < count q ps → count x (q ∷ remove q ps) ≡ count x ps
unfolding count
count_remove x q [] h = absurd (not-suc-le-zero h)
count_remove x q (p ∷ ps) h = go (ℕ_discrete q p) (λ (k : 0 < count q ps). count_remove x q ps k)
  where
    go : Dec (q ≡ p) → (0 < count q ps → count x (q ∷ remove q ps) ≡ count x ps) → count x (q ∷ remove q (p ∷ ps)) ≡ count x (p ∷ ps)
    go (yes e) ih = rw (e, remove_same p ps)
    go (no ne) ih =
        rw (remove_other q p ps ne, bump_comm (eqb x q) (eqb x p) (count x (remove q ps)))
        (ap (bump (eqb x p)) (ih (rw (ne_eqb q p ne) at h)))

-- what is left of q ∷ as and of bs, where they hold the same, holds the same
pub count_rest : (x q : ℕ) (xs ys : List ℕ) → 0 < count q ys → count x (q ∷ xs) ≡ count x ys → count x xs ≡ count x (remove q ys)
unfolding count
count_rest x q xs ys h e = bump_inj (eqb x q) _ _ (e ∙ sym (count_remove x q ys h))

-- each entry is below all that follow it
abbrev pub Ascending : List ℕ → Type 0
Ascending [] = Unit {0}
Ascending (x ∷ xs) = ((y : ℕ) → 0 < count y xs → x < y) × Ascending xs

count_remove_le : (y q : ℕ) (ps : List ℕ) → count y (remove q ps) ≤ count y ps
unfolding count remove without
count_remove_le y q [] = omega arith
count_remove_le y q (p ∷ ps) = go (eqb q p) (count_remove_le y q ps)
  where
    more : (b : Bool) (m n : ℕ) → m ≤ n → bump b m ≤ bump b n
    more true m n h = omega arith
    more false m n h = h

    go : (b : Bool) → count y (remove q ps) ≤ count y ps → count y (without b p ps (remove q ps)) ≤ bump (eqb y p) (count y ps)
    go true ih = count_tail y p ps
    go false ih = more (eqb y p) _ _ ih

pub ascending_remove : (q : ℕ) (ps : List ℕ) → Ascending ps → Ascending (remove q ps)
unfolding remove without
ascending_remove q [] h = tt
ascending_remove q (p ∷ ps) h = go (eqb q p) (ascending_remove q ps h.1)
  where
    go : (b : Bool) → Ascending (remove q ps) → Ascending (without b p ps (remove q ps))
    go true ih = h.1
    go false ih = ((λ y k. h.0 y (omega (arith, count_remove_le y q ps))), ih)

pub length_remove : (q : ℕ) (ps : List ℕ) → 0 < count q ps → length ps ≡ suc (length (remove q ps))
unfolding count
length_remove q [] h = absurd (not-suc-le-zero h)
length_remove q (p ∷ ps) h = go (ℕ_discrete q p) (λ (k : 0 < count q ps). length_remove q ps k)
  where
    go : Dec (q ≡ p) → (0 < count q ps → length ps ≡ suc (length (remove q ps))) → suc (length ps) ≡ suc (length (remove q (p ∷ ps)))
    go (yes e) ih = rw (e, remove_same p ps)
    go (no ne) ih = rw (remove_other q p ps ne) (ap suc (ih (rw (ne_eqb q p ne) at h)))

pub length_same : (qs ps : List ℕ) → ((x : ℕ) → count x qs ≡ count x ps) → length qs ≡ length ps
unfolding count
length_same [] [] s = refl
length_same [] (p ∷ ps) s = absurd (omega (arith, s p, count_same p ps))
length_same (q ∷ qs) ps s =
    ap suc (length_same qs (remove q ps) (λ x. count_rest x q qs ps held (s x))) ∙ sym (length_remove q ps held)
  where
    held : 0 < count q ps
    held = omega (arith, s q, count_same q qs)
