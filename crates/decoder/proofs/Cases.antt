-- What `decode_of` is in each case that the code meets, over plain numbers: what the functions' proofs cite.
use mathlib.Core.Path.{◌≡◌, refl, sym, ap, ◌∙◌}
use mathlib.Core.Bool.{Bool, true, false, not, ◌||◌}
use mathlib.Core.List.{List, [], ◌∷◌}
use Prim.Native.Nat.{ℕ, zero, suc, ◌+◌, ◌*◌, ◌≤◌, ◌<◌}
use native.Mathlib.Nat.{zero-add, zero-mul, suc-mul}
use native.Mathlib.Omega.{arith}
use lib.Dec.{eqb, eqb→eq}
use lib.ListN.{length}
use borrow.Author.Tests.{ne_eqb, lt-ltb}
use Rattle.std.specs.Prelude.{ltb, Some, None}
use Rattle.std.proofs.lemmas.Option.{same_Some, none-some}
use Rattle.std.proofs.lemmas.Bool.{ltb-false}
use Rattle.logic.specs.Pick.{pick}
use Rattle.setting.specs.Allowed.{allowed_of}
use Rattle.setting.specs.Numbers.{refuse}
use Rattle.setting.specs.declared.Setting.{Setting}
use Rattle.element.proofs.Below.{below}
use Rattle.encoding.specs.Rows.{Row, rows, row_matches}
use Rattle.encoding.specs.Places.{place_first, place_in, found_place}
use Rattle.encoding.specs.Decode.{first_of, read_at, decode_of}
use Rattle.encoding.proofs.Apart.{decide}
use Rattle.encoding.proofs.Choice.{first_is_read}

-- ---- the form that is read stands at the place of its row
place_le : (rs : List Row) (f w : ℕ) → place_first rs f w ≤ length rs
unfolding place_first
place_le [] f w = omega arith
place_le (r ∷ rs) f w = decide (row_matches r f w) (λ m. rw m (omega arith)) (λ m. rw m (omega (arith, place_le rs f w)))

-- what each row reads has its place, and what is read past the table has the place of no row: computed
own_place : (k w : ℕ) → k ≤ length rows → place_in (read_at rows k w) ≡ k
own_place k w h = eqb→eq (place_in (read_at rows k w)) k (below (λ j. eqb (place_in (read_at rows j w)) j) (suc (length rows)) tt k (omega arith))

place_of_first : (f w : ℕ) → place_first rows f w ≡ place_in (first_of rows f w)
place_of_first f w = sym (ap place_in (first_is_read rows f w) ∙ own_place (place_first rows f w) w (place_le rows f w))

-- ---- a place as the code answers it
picked_some : {k : ℕ} (b : Bool) (n : ℕ) → pick b (Some n) None ≡ Some k → (b ≡ true) × (n ≡ k)
picked_some true n e = (refl, same_Some n _ e)
picked_some false n e = absurd (none-some _ e)

picked_none : (b : Bool) (n : ℕ) → pick b (Some n) None ≡ None → b ≡ false
picked_none true n e = absurd (none-some n (sym e))
picked_none false n e = refl

pub place_some : (n : ℕ) {k : ℕ} → found_place n ≡ Some k → k ≡ n
place_some n e = sym (picked_some (ltb n (length rows)) n e).1

-- no row is found where none matches
pub none_first : (f w : ℕ) → found_place (place_first rows f w) ≡ None → place_first rows f w ≡ length rows
none_first f w e = let n = ltb-false (place_first rows f w) (length rows) (picked_none (ltb (place_first rows f w) (length rows)) (place_first rows f w) e) in omega (arith, n, place_le rows f w)

pub place_at : (k : ℕ) → k < length rows → Some k ≡ found_place k
place_at k h = rw (lt-ltb k (length rows) h)

-- ---- decode
module _ (s : Setting) (w : ℕ) where
  pub decode_not_allowed : allowed_of s ≡ false → refuse 1 ≡ decode_of s w
  unfolding decode_of
  decode_not_allowed a = simp a

  module _ (a : allowed_of s ≡ true) (k : ℕ) (e : k ≡ place_first rows s.features w) where
    pub decode_row : read_at rows k w ≡ decode_of s w
    unfolding decode_of
    decode_row = simp a (ap (λ (j : ℕ). read_at rows j w) e ∙ sym (first_is_read rows s.features w))

  module _ (a : allowed_of s ≡ true) where
    pub decode_undefined : place_first rows s.features w ≡ length rows → refuse 3 ≡ decode_of s w
    decode_undefined e = ap (λ (j : ℕ). read_at rows j w) (sym e) ∙ decode_row a (place_first rows s.features w) refl

    pub form_place : place_first rows s.features w ≡ place_in (decode_of s w)
    unfolding decode_of
    form_place = simp a (place_of_first s.features w)

-- two fields that are not both 0 are no 0 one behind the other
pub not_both_zero : (n a b : ℕ) → (not (eqb a 0) || not (eqb b 0)) ≡ not (eqb (a * suc n + b) 0)
not_both_zero n zero b = rw (zero-mul (suc n), zero-add b)
not_both_zero n (suc a) b = rw (ne_eqb (suc a) 0 (λ e. omega arith), ne_eqb (suc a * suc n + b) 0 (λ e. omega (arith, suc-mul a (suc n))))
