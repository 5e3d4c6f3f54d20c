-- The tests are the definitions, in both directions: a test over all positions is a fact of each, and an order as long as the stretch that lists each position has no room for another entry.
use mathlib.Core.Path.{◌≡◌, refl, sym, ◌∙◌, ap}
use mathlib.Core.Bool.{Bool, true, false, false≢true, not, ◌||◌}
use mathlib.Core.List.{List, [], ◌∷◌}
use Prim.Native.Nat.{ℕ, ◌≤◌, ◌<◌}
use native.Mathlib.Omega.{arith}
use native.Mathlib.Decide.{dec_lt}
use lib.Dec.{eqb}
use lib.ListN.{length, get_or}
use borrow.Author.Tests.{eqb-true, eq-eqb, ltb-true, lt-ltb}
use Rattle.element.proofs.Below.{each_holds, all_true}
use Rattle.element.proofs.Tests.{both_yes}
use Rattle.order.specs.Rearranged.{bump, count, place, Rearrangement, Permitted}
use Rattle.order.specs.Tested.{rearranges, permits}
use Rattle.order.proofs.Counted.{count_same, remove, count_remove, length_remove}
use Rattle.order.proofs.Positions.{upto, count_upto_in, count_upto_above, length_upto, length_order}

-- ---- rearrangements
bump_le : (b : Bool) (m n : ℕ) → bump b m ≤ bump b n → m ≤ n
bump_le true m n h = omega arith
bump_le false m n h = h

-- a list that holds at least what another of its length holds, holds just that
no_room : (ps qs : List ℕ) → ((x : ℕ) → count x ps ≤ count x qs) → length qs ≡ length ps → (x : ℕ) → count x qs ≡ count x ps
unfolding count
no_room [] [] s e x = refl
no_room [] (q ∷ qs) s e x = absurd (omega arith)
no_room (p ∷ ps) qs s e x =
    sym (count_remove x p qs held)
    ∙ ap (bump (eqb x p)) (no_room ps (remove p qs) (λ y. bump_le (eqb y p) _ _ (rw (count_remove y p qs held) (s y))) (omega (arith, length_remove p qs held)) x)
  where
    held : 0 < count p qs
    held = omega (arith, s p, count_same p ps)

module _ (n : ℕ) (order : List ℕ) where
  pub listed_once : length order ≡ n → ((i : ℕ) → i < n → count i order ≡ 1) → Rearrangement n order
  listed_once e once = record {
    once = once;
    none = λ i l. no_room (upto 0 n) order (λ x. at_least x (dec_lt x n)) (e ∙ sym (length_upto 0 n)) i ∙ count_upto_above 0 n i (omega arith);
  }
    where
      at_least : (x : ℕ) → Dec (x < n) → count x (upto 0 n) ≤ count x order
      at_least x (yes l) = omega (arith, count_upto_in 0 n x (omega arith) (omega arith), once x l)
      at_least x (no l) = omega (arith, count_upto_above 0 n x (omega arith))

  pub rearranges_sound : rearranges n order ≡ true → Rearrangement n order
  unfolding rearranges
  rearranges_sound h =
      let p = both_yes _ _ h in
      listed_once (eqb-true (length order) n p.0) (λ i l. eqb-true (count i order) 1 (each_holds _ n p.1 i l))

  pub rearranges_whole : Rearrangement n order → rearranges n order ≡ true
  unfolding rearranges
  rearranges_whole R =
      rw (eq-eqb (length order) n (length_order n order R ∙ length_upto 0 n)) (all_true _ n (λ i l. eq-eqb (count i order) 1 (R.once i l)))

-- ---- permission
or_not : (c b : Bool) → not c || b ≡ true → c ≡ true → b ≡ true
or_not true b h e = h
or_not false b h e = absurd (false≢true e)

or_follows : (c b : Bool) → (c ≡ true → b ≡ true) → not c || b ≡ true
or_follows true b f = f refl
or_follows false b f = refl

module _ (conflict : ℕ → ℕ → Bool) (words order : List ℕ) where
  pub permits_sound : permits conflict words order ≡ true → Permitted conflict words order
  unfolding permits
  permits_sound h = record {
    first = λ i j l k e. ltb-true (place i order) (place j order) (or_not (conflict (get_or words i 0) (get_or words j 0)) _ (each_holds _ j (each_holds _ (length words) h j k) i l) e);
  }

  pub permits_whole : Permitted conflict words order → permits conflict words order ≡ true
  unfolding permits
  permits_whole P =
      all_true _ (length words)
      (λ j k. all_true _ j (λ i l. or_follows (conflict (get_or words i 0) (get_or words j 0)) _ (λ e. lt-ltb (place i order) (place j order) (P.first i j l k e))))
