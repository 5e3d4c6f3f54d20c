-- A rearrangement holds what the list of the positions in order holds, and is as long: by counting each entry.
use mathlib.Core.Path.{◌≡◌, refl, sym, ◌∙◌, ap}
use mathlib.Core.List.{List, [], ◌∷◌, map}
use Prim.Native.Nat.{ℕ, zero, suc, ◌+◌, ◌≤◌, ◌<◌}
use native.Mathlib.Omega.{arith}
use native.Mathlib.Decide.{ℕ_discrete, dec_lt}
use lib.ListN.{length, get_or, drop, drop_of_length-le, length-map}
use lib.Seq.{drop-cons}
use borrow.Author.Tests.{eq-eqb, ne_eqb}
use Rattle.order.specs.Rearranged.{count, Rearrangement, rearranged}
use Rattle.order.proofs.Counted.{Ascending, length_same}

-- ---- n positions from a on, in their order
pub upto : ℕ → ℕ → List ℕ
upto a zero = []
upto a (suc n) = a ∷ upto (suc a) n

count_upto_below : (a n i : ℕ) → i < a → count i (upto a n) ≡ 0
unfolding upto count
count_upto_below a zero i h = refl
count_upto_below a (suc n) i h = rw (ne_eqb i a (λ e. omega arith)) (count_upto_below (suc a) n i (omega arith))

pub count_upto_above : (a n i : ℕ) → a + n ≤ i → count i (upto a n) ≡ 0
unfolding upto count
count_upto_above a zero i h = refl
count_upto_above a (suc n) i h = rw (ne_eqb i a (λ e. omega arith)) (count_upto_above (suc a) n i (omega arith))

pub count_upto_in : (a n i : ℕ) → a ≤ i → i < a + n → count i (upto a n) ≡ 1
unfolding upto count
count_upto_in a zero i h k = absurd (omega arith)
count_upto_in a (suc n) i h k = go (ℕ_discrete i a) (λ (l : suc a ≤ i). count_upto_in (suc a) n i l (omega arith))
  where
    go : Dec (i ≡ a) → (suc a ≤ i → count i (upto (suc a) n) ≡ 1) → count i (a ∷ upto (suc a) n) ≡ 1
    go (yes e) ih = rw (eq-eqb i a e) (ap suc (count_upto_below (suc a) n i (omega arith)))
    go (no ne) ih = rw (ne_eqb i a ne) (ih (omega arith))

pub length_upto : (a n : ℕ) → length (upto a n) ≡ n
unfolding upto
length_upto a zero = refl
length_upto a (suc n) = ap suc (length_upto (suc a) n)

pub ascending_upto : (a n : ℕ) → Ascending (upto a n)
unfolding upto
ascending_upto a zero = tt
ascending_upto a (suc n) = ((λ y h. go y h (dec_lt a y)), ascending_upto (suc a) n)
  where
    go : (y : ℕ) → 0 < count y (upto (suc a) n) → Dec (a < y) → a < y
    go y h (yes l) = l
    go y h (no l) = absurd (omega (arith, count_upto_below (suc a) n y (omega arith)))

pub map_upto : (ws : List ℕ) (a n : ℕ) → a + n ≡ length ws → map (λ i. get_or ws i 0) (upto a n) ≡ drop a ws
unfolding upto
map_upto ws a zero h = sym (drop_of_length-le ws {i = a} (omega arith))
map_upto ws a (suc n) h = rw (drop-cons ws a 0 (omega arith)) (ap (λ (r : List ℕ). get_or ws a 0 ∷ r) (map_upto ws (suc a) n (omega arith)))

-- a rearrangement holds what the list of the positions in order holds
module _ (n : ℕ) (order : List ℕ) (R : Rearrangement n order) where
  pub held_alike : (x : ℕ) → count x order ≡ count x (upto 0 n)
  held_alike x = go (dec_lt x n)
    where
      go : Dec (x < n) → count x order ≡ count x (upto 0 n)
      go (yes l) = R.once x l ∙ sym (count_upto_in 0 n x (omega arith) (omega arith))
      go (no l) = R.none x (omega arith) ∙ sym (count_upto_above 0 n x (omega arith))

  pub held_once : (x : ℕ) → count x order ≤ 1
  held_once x = go (dec_lt x n)
    where
      go : Dec (x < n) → count x order ≤ 1
      go (yes l) = omega (arith, R.once x l)
      go (no l) = omega (arith, R.none x (omega arith))

  pub held_below : (x : ℕ) → 0 < count x order → x < n
  held_below x h = go (dec_lt x n)
    where
      go : Dec (x < n) → x < n
      go (yes l) = l
      go (no l) = absurd (omega (arith, R.none x (omega arith)))

  pub length_order : length order ≡ length (upto 0 n)
  length_order = length_same order (upto 0 n) held_alike

pub length_rearranged : (words order : List ℕ) → Rearrangement (length words) order → length (rearranged words order) ≡ length words
unfolding rearranged
length_rearranged words order R = length-map order _ ∙ length_order (length words) order R ∙ length_upto 0 (length words)
