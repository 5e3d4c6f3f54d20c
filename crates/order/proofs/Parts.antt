-- Stores into one part of a list, and reads of another: what the slots of a file owe. `sets` drops what would fall behind the end, so no law asks that the stores fit.
use mathlib.Core.Path.{◌≡◌, refl, sym, ◌∙◌, ap}
use mathlib.Core.List.{List, [], ◌∷◌}
use Prim.Native.Nat.{ℕ, suc, ◌+◌, ◌≤◌, ◌<◌}
use native.Mathlib.Omega.{arith}
use lib.ListN.{length, take, drop, set}
use lib.Seq.{slice, sets, set_comm, take-set-le, take-set-lt, drop-set-lt}

module _ {A : Type 0} where
  -- a store before the stores
  set_sets : (vs l : List A) (i j : ℕ) (a : A) → i < j → set (sets l j vs) i a ≡ sets (set l i a) j vs
  set_sets [] l i j a h = refl
  set_sets (v ∷ vs) l i j a h = set_sets vs (set l j v) i (suc j) a (omega arith) ∙ ap (λ (x : List A). sets x (suc j) vs) (set_comm l j i v a (λ e. omega arith))

  -- stores into two parts, the first of which ends before the second begins
  pub sets_comm : (us l : List A) (i j : ℕ) (vs : List A) → i + length us ≤ j → sets (sets l i us) j vs ≡ sets (sets l j vs) i us
  sets_comm [] l i j vs h = refl
  sets_comm (u ∷ us) l i j vs h =
      sets_comm us (set l i u) (suc i) j vs (omega arith) ∙ ap (λ (x : List A). sets x (suc i) us) (sym (set_sets vs l i j u (omega arith)))

  -- a part that ends before the stores begin, and a part that begins where the stores have ended
  pub slice_before : (vs l : List A) (i f t : ℕ) → t ≤ i → slice f t (sets l i vs) ≡ slice f t l
  slice_before [] l i f t h = refl
  slice_before (v ∷ vs) l i f t h = slice_before vs (set l i v) (suc i) f t (omega arith) ∙ ap (drop f) (take-set-le t l i v h)

  pub slice_behind : (vs l : List A) (i f t : ℕ) → i + length vs ≤ f → f ≤ t → slice f t (sets l i vs) ≡ slice f t l
  slice_behind [] l i f t h k = refl
  slice_behind (v ∷ vs) l i f t h k =
      slice_behind vs (set l i v) (suc i) f t (omega arith) k ∙ ap (drop f) (take-set-lt t l i v (omega arith)) ∙ drop-set-lt f (take t l) i v (omega arith)
