-- A permitted rearrangement of an accepted stretch runs to the same end: the new order's first word goes forward past neighbours that it does not conflict with, and so on with what is left.
use mathlib.Core.Path.{◌≡◌, refl, sym, ◌∙◌, ap}
use mathlib.Core.Bool.{Bool, true, false}
use mathlib.Core.List.{List, [], ◌∷◌, map}
use Prim.Native.Nat.{ℕ, suc, ◌≤◌, ◌<◌}
use native.Mathlib.Nat.{zero-add, not-suc-le-zero}
use native.Mathlib.Omega.{arith}
use native.Mathlib.Decide.{ℕ_discrete}
use lib.ListN.{length, get_or}
use borrow.Author.Tests.{ne_eqb}
use Rattle.order.specs.Rearranged.{count, place, Rearrangement, Permitted, rearranged}
use Rattle.order.specs.Steps.{Ended, steps}
use Rattle.order.specs.Private.{Independent}
use Rattle.order.proofs.Counted.{count_same, count_tail, place_same, place_other, remove, remove_same, remove_other, count_rest, Ascending, ascending_remove}
use Rattle.order.proofs.Positions.{upto, ascending_upto, map_upto, held_alike, held_once, held_below}
use Rattle.order.proofs.Runs.{taken, head_taken, tail_taken, after_first}

module _ {M : Type 0} (refusal : ℕ → M → ℕ) (exec : ℕ → M → M) (conflict : ℕ → ℕ → Bool) (I : Independent refusal exec conflict) where
  -- two neighbours of an accepted run change places, and the run stays accepted
  neighbours : (v w : ℕ) (ws : List ℕ) (n : ℕ) (m : M) → conflict v w ≡ false → (steps refusal exec (v ∷ w ∷ ws) n m).answer ≡ 0
      → steps refusal exec (w ∷ v ∷ ws) n m ≡ steps refusal exec (v ∷ w ∷ ws) n m
  neighbours v w ws n m c e =
      let a : refusal v m ≡ 0 = head_taken refusal exec v (w ∷ ws) n m e in
      let b : refusal w (exec v m) ≡ 0 = head_taken refusal exec w ws (suc n) (exec v m) (tail_taken refusal exec v (w ∷ ws) n m e) in
      taken refusal exec w (v ∷ ws) n m (sym (I.kept v w m c) ∙ b)
      ∙ taken refusal exec v ws (suc n) (exec w m) (I.kept_back v w m c ∙ a)
      ∙ ap (steps refusal exec ws (suc (suc n))) (sym (I.swap v w m c))
      ∙ sym (taken refusal exec v (w ∷ ws) n m a ∙ taken refusal exec w ws (suc n) (exec v m) b)

  module _ (word : ℕ → ℕ) where
    -- the words at some positions
    abbrev run : List ℕ → ℕ → M → Ended M
    run is n m = steps refusal exec (map word is) n m

    -- q goes to the front, past entries below it that do not conflict with it
    front : (q : ℕ) (ps : List ℕ) → 0 < count q ps → Ascending ps → ((i : ℕ) → 0 < count i ps → i < q → conflict (word i) (word q) ≡ false)
        → (n : ℕ) (m : M) → (run ps n m).answer ≡ 0 → run (q ∷ remove q ps) n m ≡ run ps n m
    unfolding count
    front q [] h a free n m e = absurd (not-suc-le-zero h)
    front q (p ∷ ps) h a free n m e =
        go (ℕ_discrete q p) (λ (k : 0 < count q ps). front q ps k a.1 (λ i l. free i (omega (arith, count_tail i p ps))) (suc n) (exec (word p) m))
      where
        go : Dec (q ≡ p) → (0 < count q ps → (run ps (suc n) (exec (word p) m)).answer ≡ 0 → run (q ∷ remove q ps) (suc n) (exec (word p) m) ≡ run ps (suc n) (exec (word p) m))
            → run (q ∷ remove q (p ∷ ps)) n m ≡ run (p ∷ ps) n m
        go (yes d) ih = rw (d, remove_same p ps)
        go (no ne) ih =
            let k : 0 < count q ps = rw (ne_eqb q p ne) at h in
            let f : conflict (word p) (word q) ≡ false = free p (omega (arith, count_same p ps)) (a.0 q k) in
            let s : run (p ∷ q ∷ remove q ps) n m ≡ run (p ∷ ps) n m = after_first refusal exec (word p) (map word (q ∷ remove q ps)) (map word ps) n m e (ih k) in
            rw (remove_other q p ps ne) (neighbours (word p) (word q) (map word (remove q ps)) n m f (ap (λ r. r.answer) s ∙ e) ∙ s)

    -- the same positions, in ascending order and in another in which of two that conflict the lower one comes first
    reorder : (qs ps : List ℕ) → ((x : ℕ) → count x qs ≡ count x ps) → ((x : ℕ) → count x qs ≤ 1) → Ascending ps
        → ((i j : ℕ) → 0 < count i qs → 0 < count j qs → i < j → conflict (word i) (word j) ≡ true → place i qs < place j qs)
        → (n : ℕ) (m : M) → (run ps n m).answer ≡ 0 → run qs n m ≡ run ps n m
    unfolding count
    reorder [] [] s o a f n m e = refl
    reorder [] (p ∷ ps) s o a f n m e = absurd (omega (arith, s p, count_same p ps))
    reorder (q ∷ qs) ps s o a f n m e =
        after_first refusal exec (word q) (map word qs) (map word (remove q ps)) n m (ap (λ r. r.answer) first ∙ e)
        (reorder qs (remove q ps) (λ x. count_rest x q qs ps held (s x)) (λ x. omega (arith, o x, count_tail x q qs)) (ascending_remove q ps a) below (suc n) (exec (word q) m))
        ∙ first
      where
        held : 0 < count q ps
        held = omega (arith, s q, count_same q qs)

        gone : (i : ℕ) → 0 < count i qs → i ≡ q → ⊥
        gone i h d = let h' : 0 < count q qs = rw d at h in omega (arith, o q, count_same q qs)

        free : (i : ℕ) → 0 < count i ps → i < q → conflict (word i) (word q) ≡ false
        free i h l = go (conflict (word i) (word q)) refl
          where
            go : (b : Bool) → conflict (word i) (word q) ≡ b → conflict (word i) (word q) ≡ false
            go true d = absurd (omega (arith, f i q (omega (arith, s i)) (omega (arith, count_same q qs)) l d, place_same q qs))
            go false d = d

        first : run (q ∷ remove q ps) n m ≡ run ps n m
        first = front q ps held a free n m e

        below : (i j : ℕ) → 0 < count i qs → 0 < count j qs → i < j → conflict (word i) (word j) ≡ true → place i qs < place j qs
        below i j hi hj l c =
            omega (
              arith,
              place_other i q qs (gone i hi),
              place_other j q qs (gone j hj),
              f i j (omega (arith, count_tail i q qs)) (omega (arith, count_tail j q qs)) l c,
            )

  pub same_end : (words order : List ℕ) (m : M) → (steps refusal exec words 0 m).answer ≡ 0
      → Rearrangement (length words) order → Permitted conflict words order
      → steps refusal exec (rearranged words order) 0 m ≡ steps refusal exec words 0 m
  unfolding rearranged
  same_end words order m e R P =
      reorder (λ i. get_or words i 0) order (upto 0 n) (held_alike n order R) (held_once n order R) (ascending_upto 0 n)
      (λ i j hi hj l c. P.first i j l (held_below n order R j hj) c) 0 m (ap (λ r. r.answer) whole ∙ e)
      ∙ whole
    where
      n : ℕ
      n = length words

      whole : steps refusal exec (map (λ i. get_or words i 0) (upto 0 n)) 0 m ≡ steps refusal exec words 0 m
      whole = ap (λ (ws : List ℕ). steps refusal exec ws 0 m) (map_upto words 0 n (zero-add n))
