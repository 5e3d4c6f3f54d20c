-- An order as long as the stretch is a rearrangement exactly when it lists each position: n numbers need n entries, so there is no room for a second copy.
use mathlib.Core.Path.{◌≡◌, refl, sym, ap, ◌∙◌}
use mathlib.Core.Bool.{Bool, true, false}
use mathlib.Core.List.{List, [], ◌∷◌}
use Prim.Native.Nat.{ℕ, zero, suc, ◌≤◌, ◌<◌, zero-le}
use native.Mathlib.Nat.{not-suc-le-zero}
use native.Mathlib.Omega.{arith}
use native.Mathlib.Decide.{ℕ_discrete, dec_lt}
use lib.Dec.{ltb}
use lib.ListN.{length}
use borrow.Author.Tests.{ne_eqb, ltb-true, lt-ltb}
use Rattle.order.specs.Rearranged.{count, place}
use Rattle.logic.specs.Every.{all}
use Rattle.order.specs.Tested.{rearranges}
use Rattle.order.proofs.Counted.{count_same, place_same, place_other, remove, count_remove, length_remove}
use Rattle.element.proofs.Below.{each_holds, all_true}
use Rattle.order.proofs.Tested.{listed_once, rearranges_sound, rearranges_whole}

count_other : (i j : ℕ) (js : List ℕ) → (i ≡ j → ⊥) → count i (j ∷ js) ≡ count i js
unfolding count
count_other i j js ne = rw (ne_eqb i j ne)

-- ---- an entry has a place before the end exactly when it stands in the list
counted_placed : (i : ℕ) (js : List ℕ) → 0 < count i js → place i js < length js
unfolding count place
counted_placed i [] h = absurd (not-suc-le-zero h)
counted_placed i (j ∷ js) h = go (ℕ_discrete i j) (λ (k : 0 < count i js). counted_placed i js k)
  where
    go : Dec (i ≡ j) → (0 < count i js → place i js < length js) → place i (j ∷ js) < length (j ∷ js)
    go (yes e) ih = omega (arith, ap (λ (x : ℕ). place x (j ∷ js)) e ∙ place_same j js)
    go (no ne) ih = rw (place_other i j js ne) (omega (arith, ih (omega (arith, count_other i j js ne))))

placed_counted : (i : ℕ) (js : List ℕ) → place i js < length js → 0 < count i js
unfolding count place
placed_counted i [] h = absurd (not-suc-le-zero h)
placed_counted i (j ∷ js) h = go (ℕ_discrete i j) (λ (k : place i js < length js). placed_counted i js k)
  where
    go : Dec (i ≡ j) → (place i js < length js → 0 < count i js) → 0 < count i (j ∷ js)
    go (yes e) ih = omega (arith, ap (λ (x : ℕ). count x (j ∷ js)) e ∙ count_same j js)
    go (no ne) ih = rw (count_other i j js ne) (ih (omega (arith, place_other i j js ne)))

-- ---- room
-- an entry stays when another, or one of two copies, is taken out
stays : (x q : ℕ) (xs : List ℕ) → 0 < count q xs → (x ≡ q → 1 < count q xs) → 0 < count x xs → 0 < count x (remove q xs)
stays x q xs h two k = go (ℕ_discrete x q)
  where
    go : Dec (x ≡ q) → 0 < count x (remove q xs)
    go (yes e) = rw e (omega (arith, two e, count_remove q q xs h, count_same q (remove q xs)))
    go (no ne) = omega (arith, count_remove x q xs h, count_other x q (remove q xs) ne)

needs_room : (n : ℕ) (xs : List ℕ) → ((i : ℕ) → i < n → 0 < count i xs) → n ≤ length xs
needs_room zero xs h = zero-le
needs_room (suc n) xs h =
    let k = h n (omega arith) in
    omega (arith, length_remove n xs k, needs_room n (remove n xs) (λ i l. stays i n xs k (λ e. absurd (omega arith)) (h i (omega arith))))

module _ (n : ℕ) (order : List ℕ) (e : length order ≡ n) where
  once : ((i : ℕ) → i < n → 0 < count i order) → (i : ℕ) → i < n → count i order ≡ 1
  once h i l = go (dec_lt 1 (count i order))
    where
      go : Dec (1 < count i order) → count i order ≡ 1
      go (yes two) = absurd (omega (arith, length_remove i order (h i l), needs_room n (remove i order) (λ j m. stays j i order (h i l) (λ q. two) (h j m))))
      go (no one) = omega (arith, h i l)

  pub listed_rearranges : all (λ i. ltb (place i order) n) n ≡ rearranges n order
  listed_rearranges = go (all (λ i. ltb (place i order) n) n) (rearranges n order) refl refl
    where
      whole : all (λ i. ltb (place i order) n) n ≡ true → rearranges n order ≡ true
      whole h = rearranges_whole n order (listed_once n order e (once (λ i l. placed_counted i order (rw e (ltb-true (place i order) n (each_holds _ n h i l))))))

      sound : rearranges n order ≡ true → all (λ i. ltb (place i order) n) n ≡ true
      sound h = all_true _ n (λ i l. lt-ltb (place i order) n (omega (arith, counted_placed i order (omega (arith, (rearranges_sound n order h).once i l)))))

      go : (a b : Bool) → all (λ i. ltb (place i order) n) n ≡ a → rearranges n order ≡ b → all (λ i. ltb (place i order) n) n ≡ rearranges n order
      go true b p q = p ∙ sym (whole p)
      go false true p q = sound q ∙ sym q
      go false false p q = p ∙ sym q
