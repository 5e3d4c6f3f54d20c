-- A run opened at its first word: a word that is not refused is done, and the first word of an accepted run is such.
use mathlib.Core.Path.{◌≡◌, refl, sym, ◌∙◌, ap}
use mathlib.Core.List.{List, [], ◌∷◌}
use Prim.Native.Nat.{ℕ, zero, suc, ◌+◌}
use native.Mathlib.Nat.{add-zero}
use native.Mathlib.Omega.{arith}
use lib.ListN.{length}
use Rattle.order.specs.Steps.{steps}

module _ {M : Type 0} (refusal : ℕ → M → ℕ) (exec : ℕ → M → M) where
  -- a word that is not refused is done; the first word of an accepted run is such, and the rest is accepted
  pub taken : (w : ℕ) (ws : List ℕ) (n : ℕ) (m : M) → refusal w m ≡ 0 → steps refusal exec (w ∷ ws) n m ≡ steps refusal exec ws (suc n) (exec w m)
  unfolding steps
  taken w ws n m r = rw (r, steps)

  pub head_taken : (w : ℕ) (ws : List ℕ) (n : ℕ) (m : M) → (steps refusal exec (w ∷ ws) n m).answer ≡ 0 → refusal w m ≡ 0
  unfolding steps
  head_taken w ws n m e = go (refusal w m) refl
    where
      go : (k : ℕ) → refusal w m ≡ k → refusal w m ≡ 0
      go zero r = r
      go (suc k) r = let z : suc k ≡ 0 = rw (r, steps) at e in absurd (omega arith)

  pub tail_taken : (w : ℕ) (ws : List ℕ) (n : ℕ) (m : M) → (steps refusal exec (w ∷ ws) n m).answer ≡ 0 → (steps refusal exec ws (suc n) (exec w m)).answer ≡ 0
  tail_taken w ws n m e = sym (ap (λ r. r.answer) (taken w ws n m (head_taken w ws n m e))) ∙ e

  -- a stretch that is accepted throughout is done to its last word
  pub done_whole : (ws : List ℕ) (n : ℕ) (m : M) → (steps refusal exec ws n m).answer ≡ 0 → (steps refusal exec ws n m).done ≡ n + length ws
  unfolding steps
  done_whole [] n m e = rw add-zero
  done_whole (w ∷ ws) n m e =
      ap (λ r. r.done) (taken w ws n m (head_taken w ws n m e)) ∙ done_whole ws (suc n) (exec w m) (tail_taken w ws n m e) ∙ omega arith

  -- after one word more
  pub after_first : (w : ℕ) (xs ys : List ℕ) (n : ℕ) (m : M) → (steps refusal exec (w ∷ ys) n m).answer ≡ 0
      → ((steps refusal exec ys (suc n) (exec w m)).answer ≡ 0 → steps refusal exec xs (suc n) (exec w m) ≡ steps refusal exec ys (suc n) (exec w m))
      → steps refusal exec (w ∷ xs) n m ≡ steps refusal exec (w ∷ ys) n m
  after_first w xs ys n m e f =
      let r : refusal w m ≡ 0 = head_taken w ys n m e in
      taken w xs n m r ∙ f (tail_taken w ys n m e) ∙ sym (taken w ys n m r)
