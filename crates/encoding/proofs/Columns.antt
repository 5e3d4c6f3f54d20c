-- The code's table has the definition's columns: each by a test that is computed over the rows, and a law that says what one comparison of bits tells. Behind the rows' places there is none: by recursion on their number.
use mathlib.Core.Path.{◌≡◌, refl, sym, ap, ap₂, ◌∙◌}
use mathlib.Core.Bool.{true, false, false≢true, ◌||◌}
use mathlib.Core.List.{List, [], ◌∷◌, map}
use Prim.Native.Nat.{ℕ, zero, suc, ◌^◌, ◌<◌, ◌≤◌}
use native.Mathlib.Omega.{arith}
use lib.Dec.{T, eqb, eqb→eq}
use lib.Bits.{bit_and}
use lib.ListN.{length, get_or, get_or-map, get_or-eq_default}
use borrow.Author.Tests.{eq-eqb, ne_eqb, lt-ltb, le-ltb}
use Rattle.setting.specs.Allowed.{feature_bit, has_any}
use Rattle.setting.specs.declared.Feature.{Feature}
use Rattle.element.specs.Private.{shares}
use Rattle.element.proofs.Below.{below}
use Rattle.element.proofs.Shared.{shares_none, or_shares, shares_power}
use Rattle.encoding.specs.Layout.{Piece, width, matches, fixed_of}
use Rattle.encoding.specs.Instructions.{read_pext}
use Rattle.encoding.specs.Rows.{Row, rows}
use Rattle.encoding.specs.Places.{layout_at, features_at, has_layout}
use Rattle.encoding.specs.Private.{feature_bits}
use Rattle.encoding.specs.declared.table.Columns.{Columns}
use Rattle.encoding.proofs.LayoutLaws.{sound, mask_of, matches_masked, masked_matches}
use Rattle.encoding.proofs.Apart.{decide}

-- ---- the arm of a match behind those of the rows: a place that is none of them is at least their number; omega splits no more than six
abbrev pub NoneBelow : ℕ → ℕ → Type 0
NoneBelow zero k = Unit {0}
NoneBelow (suc n) k = NoneBelow n k × (k ≡ n → ⊥)

pub none_below_at_least : (n k : ℕ) → NoneBelow n k → n ≤ k
none_below_at_least zero k h = omega arith
none_below_at_least (suc n) k h = let l = none_below_at_least n k h.0 in let e = h.1 in omega arith

-- ---- layouts
abbrev pub layouts : List (List Piece)
layouts = map (λ (r : Row). r.layout) rows

-- a row's columns as the code has them
abbrev pub columns_of : Row → Columns
columns_of r = record { mask = mask_of r.layout; bits = fixed_of r.layout; features = feature_bits r.features }

abbrev pub columns : List Columns
columns = map columns_of rows

abbrev pub none : Columns
none = record { mask = 0; bits = 0; features = 0 }

wide : (k : ℕ) → k < length rows → width (layout_at k) ≡ 32
wide k h = eqb→eq (width (layout_at k)) 32 (below (λ j. eqb (width (layout_at j)) 32) (length rows) tt k h)

layout_sound : (k : ℕ) → k < length rows → T (sound (layout_at k))
layout_sound k h = below (λ j. sound (layout_at j)) (length rows) tt k h

-- behind the rows stands a row of nothing
abbrev nothing : Row
nothing = record { layout = []; features = []; condition = λ xs. true; reading = read_pext 1; name = λ xs. [] }

column_at : {A : Type 0} (f : Columns → A) (g : Row → A) → f none ≡ g nothing → ((r : Row) → f (columns_of r) ≡ g r) → (k : ℕ) → f (get_or columns k none) ≡ get_or (map g rows) k (g nothing)
column_at f g e h k = go rows k
  where
    go : (rs : List Row) (k : ℕ) → f (get_or (map columns_of rs) k none) ≡ get_or (map g rs) k (g nothing)
    go [] k = e
    go (r ∷ rs) zero = h r
    go (r ∷ rs) (suc k) = go rs k

-- comparing the fixed bits tells whether the layout matches
pub fixed_bits_tell : (k w : ℕ) → k < length rows → w < 2 ^ 32 → eqb (bit_and w (get_or columns k none).mask) (get_or columns k none).bits ≡ has_layout k w
fixed_bits_tell k w h l =
    let m = column_at (λ c. c.mask) (λ r. mask_of r.layout) refl (λ r. refl) k ∙ get_or-map mask_of layouts k [] in
    let f = column_at (λ c. c.bits) (λ r. fixed_of r.layout) refl (λ r. refl) k ∙ get_or-map fixed_of layouts k [] in
    rw (lt-ltb k (length rows) h) (decide (matches (layout_at k) w)
    (λ e. eq-eqb (bit_and w (get_or columns k none).mask) (get_or columns k none).bits (ap (bit_and w) m ∙ matches_masked (layout_at k) (layout_sound k h) w e ∙ sym f) ∙ sym e)
    (λ e. ne_eqb (bit_and w (get_or columns k none).mask) (get_or columns k none).bits (λ q. false≢true (sym e ∙ masked_matches (layout_at k) w (rw (wide k h) l) (ap (bit_and w) (sym m) ∙ q ∙ f))) ∙ sym e))

pub no_layout : (k w : ℕ) → length rows ≤ k → false ≡ has_layout k w
no_layout k w h = rw (le-ltb k (length rows) h)

-- ---- features
-- a bit in common is a feature of the list
any_shares : (f : ℕ) (xs : List Feature) → shares f (feature_bits xs) ≡ has_any f xs
any_shares f [] = shares_none f
any_shares f (x ∷ xs) = or_shares f (2 ^ feature_bit x) (feature_bits xs) ∙ ap₂ ◌||◌ (shares_power f (feature_bit x)) (any_shares f xs)

pub feature_bits_tell : (k f : ℕ) {b : ℕ} → b ≡ feature_bits (features_at k) → shares f b ≡ has_any f (features_at k)
feature_bits_tell k f e = ap (shares f) e ∙ any_shares f (features_at k)

pub no_features : (k : ℕ) → length rows ≤ k → 0 ≡ feature_bits (features_at k)
no_features k h = ap feature_bits (sym (get_or-eq_default (map (λ (r : Row). r.features) rows) [] h))
