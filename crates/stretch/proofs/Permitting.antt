-- What a permission answers in each case that the code meets: a refusal, no for another length, or the test over the tables, which is the definitions' test position by position.
use mathlib.Core.Path.{◌≡◌, refl, sym, ◌∙◌, ap, ap₂}
use mathlib.Core.Bool.{Bool, true, false, not, ◌&&◌, ◌||◌, and_comm}
use mathlib.Core.List.{List}
use Prim.Native.Nat.{ℕ, zero, suc, ◌≤◌, ◌<◌}
use native.Mathlib.Omega.{arith}
use lib.Dec.{ltb}
use lib.ListN.{length, get_or, take}
use Rattle.std.specs.List.{list_all}
use Rattle.std.proofs.lemmas.List.Folds.{list_all_more}
use native.Mathlib.Numerals.{add-one}
use borrow.Author.Tests.{le-leb, lt-leb, ne_eqb}
use Rattle.setting.specs.Allowed.{allowed_of}
use Rattle.setting.specs.Numbers.{accept, refuse}
use Rattle.setting.specs.declared.Setting.{Setting}
use Rattle.order.specs.Rearranged.{place}
use Rattle.logic.specs.Every.{all}
use Rattle.order.specs.Tested.{keeps, rearranges, permits}
use Rattle.stretch.specs.Conflict.{conflict}
use Rattle.stretch.specs.Permission.{all_read, permitted_by, permitted_of}
use Rattle.stretch.specs.declared.tables.Entry.{Entry}
use Rattle.stretch.specs.Private.{touch_of, entry, entry_at, Told, Unplaced, Placed, keeps_entry, stands_at}
use Rattle.stretch.proofs.Clashes.{clash_is_conflict}
use Rattle.stretch.proofs.Listed.{listed_rearranges}

-- ---- tests of every number below n
all_same : (f g : ℕ → Bool) (n : ℕ) → ((i : ℕ) → i < n → f i ≡ g i) → all f n ≡ all g n
all_same f g zero h = refl
all_same f g (suc n) h = ap₂ (λ (a b : Bool). a && b) (h n (omega arith)) (all_same f g n (λ i l. h i (omega arith)))

and_exchange : (a b c d : Bool) → (a && b) && (c && d) ≡ (a && c) && (b && d)
and_exchange true true c d = refl
and_exchange true false true d = refl
and_exchange true false false d = refl
and_exchange false b c d = refl

all_both : (f g : ℕ → Bool) (n : ℕ) → all (λ i. f i && g i) n ≡ (all f n && all g n)
all_both f g zero = refl
all_both f g (suc n) = ap (λ (b : Bool). (f n && g n) && b) (all_both f g n) ∙ and_exchange (f n) (g n) (all f n) (all g n)

-- every entry in front of j passes the test
list_all_below : (p : Entry → Bool) (entries : List Entry) (j : ℕ) → j ≤ length entries → list_all p (take j entries) ≡ all (λ i. p (entry_at entries i)) j
list_all_below p entries zero h = refl
list_all_below p entries (suc j) h =
    let more : list_all p (take (suc j) entries) ≡ (list_all p (take j entries) && p (entry_at entries j)) = rw (← add-one j) (list_all_more p entries j _ h) in
    more ∙ and_comm (list_all p (take j entries)) (p (entry_at entries j)) ∙ ap (λ (b : Bool). p (entry_at entries j) && b) (list_all_below p entries j (omega arith))

-- ---- the test over the entries
module _ (s : Setting) (words order : List ℕ) (entries : List Entry)
    (same : length order ≡ length words) (long : length entries ≡ length words)
    (each : (i : ℕ) → i < length words → entry_at entries i ≡ entry (touch_of s (get_or words i 0)) (place i order)) where
  keeps_same : (i j : ℕ) → i < length words → j < length words → keeps_entry (entry_at entries i) (entry_at entries j) ≡ keeps (conflict s) words order i j
  keeps_same i j h l =
      ap₂ keeps_entry (each i h) (each j l)
      ∙ ap (λ (a : Bool). not a || ltb (place i order) (place j order)) (clash_is_conflict s (get_or words i 0) (get_or words j 0))

  stands_same : (j : ℕ) → j < length words → stands_at entries j ≡ (ltb (place j order) (length words) && all (λ i. keeps (conflict s) words order i j) j)
  stands_same j l =
      ap₂ (λ (a b : Bool). a && b) (ap₂ ltb (ap (λ (e : Entry). e.place) (each j l)) long)
      (list_all_below (λ e. keeps_entry e (entry_at entries j)) entries j (omega arith) ∙ all_same _ _ j (λ i h. keeps_same i j (omega arith) l))

  pub stands_permitted : {b : Bool} → b ≡ all (stands_at entries) (length entries) → b ≡ permitted_by s words order
  unfolding permits
  stands_permitted e =
      e
      ∙ ap (all (stands_at entries)) long
      ∙ all_same _ _ (length words) stands_same
      ∙ all_both (λ j. ltb (place j order) (length words)) (λ j. all (λ i. keeps (conflict s) words order i j) j) (length words)
      ∙ ap (λ (b : Bool). b && permits (conflict s) words order) (listed_rearranges (length words) order same)

-- the entries of the words, before and after they are placed
module _ (s : Setting) (words order : List ℕ) (same : length order ≡ length words) (told : List Entry) (T : Told s words (length words) told) where
  pub all_unplaced : Unplaced (length order) told
  all_unplaced i h = ap (λ (e : Entry). e.place) (T.each i (omega (arith, T.long))) ∙ sym same

  pub placed_permitted : (entries : List Entry) → length entries ≡ length told → Placed order told entries
      → {b : Bool} → b ≡ all (stands_at entries) (length entries) → b ≡ permitted_by s words order
  placed_permitted entries l P =
      stands_permitted s words order entries same (l ∙ T.long)
      (λ i h. P i (omega (arith, T.long)) ∙ ap (λ (e : Entry). entry e.touch (place i order)) (T.each i h))

-- ---- the answers
module _ (s : Setting) (words order : List ℕ) where
  pub permission_not_allowed : allowed_of s ≡ false → refuse 1 ≡ permitted_of s words order
  unfolding permitted_of
  permission_not_allowed a = rw a

  module _ (a : allowed_of s ≡ true) where
    pub permission_too_many : 256 < length words → refuse 8 ≡ permitted_of s words order
    unfolding permitted_of
    permission_too_many h = rw (a, lt-leb (length words) 256 h)

    module _ (few : length words ≤ 256) where
      pub permission_unread : all_read s words ≡ false → refuse 3 ≡ permitted_of s words order
      unfolding permitted_of
      permission_unread h = rw (a, le-leb (length words) 256 few, h)

      module _ (r : all_read s words ≡ true) where
        pub permission_is : {b : Bool} → b ≡ permitted_by s words order → accept b ≡ permitted_of s words order
        unfolding permitted_of
        permission_is e = rw (a, le-leb (length words) 256 few, r) (ap accept e)

        pub permission_other_length : (length order ≡ length words → ⊥) → accept false ≡ permitted_of s words order
        unfolding rearranges
        permission_other_length ne = permission_is (rw (ne_eqb (length order) (length words) ne))
