-- The entries' places, given from the order's last entry: those that the order lists from k on have theirs, and one that it does not list there has the order's length. By an entry more in front.
use Rattle.std.proofs.Common.{◌≡◌, ℕ, suc, ◌+◌, ◌≤◌, ◌<◌, List, length, get_or, set, drop, ap, ap₂, ◌∙◌, arith}
use Rattle.std.proofs.Math.Seq.{drop-cons, drop-length, get_or-set_same, get_or-set_other}
use native.Mathlib.Decide.{ℕ_discrete}
use Rattle.order.specs.Rearranged.{place}
use Rattle.order.proofs.Counted.{place_same, place_other}
use Rattle.stretch.specs.declared.tables.Entry.{Entry}
use Rattle.stretch.specs.Private.{entry, entry_at, Unplaced, Placed}

-- each entry has its place among the order's entries from k on
abbrev pub PlacedFrom : ℕ → List ℕ → List Entry → List Entry → Type 0
PlacedFrom k order before after = (i : ℕ) → i < length before → entry_at after i ≡ entry (entry_at before i).touch (k + place i (drop k order))

module _ (order : List ℕ) (before : List Entry) where
  pub placed_none : Unplaced (length order) before → PlacedFrom (length order) order before before
  unfolding place
  placed_none h i l = ap (entry (entry_at before i).touch) (h i l ∙ rw (drop-length order) (omega arith))

  pub placed_all : (after : List Entry) (k : ℕ) → k ≤ 0 → PlacedFrom k order before after → Placed order before after
  placed_all after k e p i l = let z : k ≡ 0 = omega arith in p i l ∙ ap (entry (entry_at before i).touch) (rw z (omega arith))

  -- one entry of the order more
  module _ (n k : ℕ) (e : n ≡ suc k) (h : k < length order) (after : List Entry) (p : PlacedFrom n order before after) where
    other : (i : ℕ) → i < length before → (i ≡ get_or order k 0 → ⊥) → entry_at after i ≡ entry (entry_at before i).touch (k + place i (drop k order))
    other i l ne = p i l ∙ ap (entry (entry_at before i).touch) (rw (e, drop-cons order k 0 h, place_other i (get_or order k 0) (drop (suc k) order) ne) (omega arith))

    pub placed_passed : length before ≤ get_or order k 0 → PlacedFrom k order before after
    placed_passed g i l = other i l (λ q. omega arith)

    pub placed_stored : length after ≡ length before → get_or order k 0 < length after → PlacedFrom k order before (set after (get_or order k 0) (record (entry_at after (get_or order k 0)) { place = k }))
    placed_stored m g i l = go (ℕ_discrete i (get_or order k 0))
      where
        go : Dec (i ≡ get_or order k 0) → entry_at (set after (get_or order k 0) (record (entry_at after (get_or order k 0)) { place = k })) i ≡ entry (entry_at before i).touch (k + place i (drop k order))
        go (yes q) =
            let t : (entry_at after (get_or order k 0)).touch ≡ (entry_at before (get_or order k 0)).touch = ap (λ (x : Entry). x.touch) (p (get_or order k 0) (omega arith)) in
            rw (q, get_or-set_same after (get_or order k 0) _ _ g, drop-cons order k 0 h, place_same (get_or order k 0) (drop (suc k) order)) (ap₂ entry t (omega arith))
        go (no ne) = get_or-set_other after (get_or order k 0) i _ _ ne ∙ other i l ne
