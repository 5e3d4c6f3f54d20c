-- The place of the first row that matches, as the two searches find it: among layouts pairwise apart one row at most matches, in whatever order they are tried; or turn by turn from the last row. By induction on the rows.
use mathlib.Core.Path.{◌≡◌, refl, sym, ap, ap₂, ◌∙◌}
use mathlib.Core.Bool.{Bool, true, false, ◌&&◌, and_assoc, and-false, cond}
use mathlib.Core.List.{List, [], ◌∷◌, map}
use Prim.Native.Nat.{ℕ, zero, suc, ◌+◌, ◌<◌, ◌≤◌}
use native.Mathlib.Omega.{arith}
use native.Mathlib.Decide.{ℕ_discrete}
use lib.Dec.{T, eqb, eqb→eq, ltb, ltb→lt}
use lib.ListN.{length, drop, get_or}
use borrow.Author.Tests.{lt-ltb}
use Rattle.setting.specs.Allowed.{has_any}
use Rattle.logic.specs.Pick.{pick}
use Rattle.logic.specs.Every.{all}
use Rattle.element.proofs.Below.{both, below}
use Rattle.encoding.specs.Layout.{Piece, fields_of, matches}
use Rattle.encoding.specs.Rows.{Row, rows, row_matches}
use Rattle.encoding.specs.Places.{layout_at, has_layout, place_first}
use Rattle.encoding.proofs.Choice.{matches_at, place_is}
use Rattle.encoding.proofs.Round.{rows_disjoint}
use Rattle.decoder.specs.Private.{rest_at}

abbrev layout_in : List Row → ℕ → List Piece
layout_in rs k = get_or (map (λ (r : Row). r.layout) rs) k []

pub its_layout : (k w : ℕ) → k < length rows → has_layout k w ≡ matches (layout_at k) w
its_layout k w h = rw (lt-ltb k (length rows) h)

-- the row at a place matches: its layout, and the rest
whole_row : (rs : List Row) (k f w : ℕ) → (matches (layout_in rs k) w && rest_at rs k f w) ≡ matches_at rs k f w
whole_row [] k f w = and-false (matches [] w)
whole_row (r ∷ rs) zero f w = sym (and_assoc (matches r.layout w) (has_any f r.features) (r.condition (fields_of r.layout w)))
whole_row (r ∷ rs) (suc k) f w = whole_row rs k f w

-- as the code's tests have it
pub tested : (k f w : ℕ) {m b : Bool} → k < length rows → m ≡ has_layout k w → b ≡ rest_at rows k f w → (m && b) ≡ matches_at rows k f w
tested k f w l h r = ap₂ (λ (x y : Bool). x && y) (h ∙ its_layout k w l) r ∙ whole_row rows k f w

pub without_layout : (k f w : ℕ) {m : Bool} → k < length rows → m ≡ has_layout k w → m ≡ false → matches_at rows k f w ≡ false
without_layout k f w l h e = sym (tested k f w l h refl) ∙ ap (λ (x : Bool). x && rest_at rows k f w) e

pub without_rest : (k f w : ℕ) {b : Bool} → k < length rows → b ≡ rest_at rows k f w → b ≡ false → matches_at rows k f w ≡ false
without_rest k f w l h e = sym (tested k f w l refl h) ∙ ap (λ (x : Bool). has_layout k w && x) e ∙ and-false (has_layout k w)

-- ---- by turns, in any order that has every place
-- the code's order
abbrev pub turns_of_code : List ℕ
turns_of_code = 0 ∷ 5 ∷ 1 ∷ 2 ∷ 3 ∷ 4 ∷ []

-- the first turn of a place; the number of turns where it has none
abbrev pub turn_of : List ℕ → ℕ → ℕ
turn_of [] k = 0
turn_of (t ∷ ts) k = pick (eqb t k) 0 (suc (turn_of ts k))

-- what a list of turns must meet: each is a place, and each place has a turn, at which it comes
abbrev pub is_a_place : List ℕ → ℕ → Bool
is_a_place turns n = ltb (get_or turns n 0) (length rows)

abbrev pub has_its_turn : List ℕ → ℕ → Bool
has_its_turn turns k = ltb (turn_of turns k) (length rows) && eqb (get_or turns (turn_of turns k) 0) k

its_turn : (turns : List ℕ) (k : ℕ) → T (all (has_its_turn turns) (length rows)) → k < length rows → (turn_of turns k < length rows) × (get_or turns (turn_of turns k) 0 ≡ k)
its_turn turns k t l =
    let p = both (ltb (turn_of turns k) (length rows)) (eqb (get_or turns (turn_of turns k) 0) k) (below (has_its_turn turns) (length rows) t k l) in
    (ltb→lt (turn_of turns k) (length rows) p.0, eqb→eq (get_or turns (turn_of turns k) 0) k p.1)

pub turn_lt : (turns : List ℕ) → T (all (is_a_place turns) (length rows)) → (n : ℕ) → n < length rows → get_or turns n 0 < length rows
turn_lt turns t n h = ltb→lt (get_or turns n 0) (length rows) (below (is_a_place turns) (length rows) t n h)

-- no row whose turn has passed matches
abbrev pub Passed : List ℕ → ℕ → ℕ → ℕ → Type 0
Passed turns f w n = (k : ℕ) → k < length rows → turn_of turns k < n → matches_at rows k f w ≡ false

pub passed_more : (turns : List ℕ) (f w n : ℕ) → T (all (has_its_turn turns) (length rows)) → Passed turns f w n → matches_at rows (get_or turns n 0) f w ≡ false → Passed turns f w (n + 1)
passed_more turns f w n t h e k l m = go (ℕ_discrete (turn_of turns k) n)
  where
    go : Dec (turn_of turns k ≡ n) → matches_at rows k f w ≡ false
    go (yes q) = ap (λ (x : ℕ). matches_at rows x f w) (sym (its_turn turns k t l).1 ∙ ap (λ (x : ℕ). get_or turns x 0) q) ∙ e
    go (no q) = h k l (omega arith)

none_place : (rs : List Row) (f w : ℕ) → ((k : ℕ) → k < length rs → matches_at rs k f w ≡ false) → place_first rs f w ≡ length rs
unfolding place_first
none_place [] f w n = refl
none_place (r ∷ rs) f w n = rw (n 0 (omega arith)) (ap suc (none_place rs f w (λ k l. n (suc k) (omega arith))))

pub none_found : (turns : List ℕ) (f w n : ℕ) → T (all (has_its_turn turns) (length rows)) → Passed turns f w n → length rows ≤ n → length rows ≡ place_first rows f w
none_found turns f w n t h l = sym (none_place rows f w (λ k m. h k m (omega (arith, (its_turn turns k t m).0))))

-- one row at most matches, so one that does is the first
pub found : (k f w : ℕ) → matches_at rows k f w ≡ true → k ≡ place_first rows f w
found k f w m = sym (place_is rows rows_disjoint k f w m)

-- ---- from the last row
picked : (k n : ℕ) (m : Bool) → k + pick m 0 (suc n) ≡ pick m k (k + 1 + n)
picked k n true = omega arith
picked k n false = omega arith

step_down : (rs : List Row) (i k f w : ℕ) → k < length rs → i + place_first (drop k rs) f w ≡ pick (matches_at rs k f w) i (i + 1 + place_first (drop (suc k) rs) f w)
unfolding place_first
step_down [] i k f w l = absurd (omega arith)
step_down (r ∷ rs) i zero f w l = picked i (place_first rs f w) (row_matches r f w)
step_down (r ∷ rs) i (suc k) f w l = step_down rs i k f w (omega arith)

-- the same as the code's turn has it
pub turned : (k n f w : ℕ) {p q : ℕ} {m : Bool} → k < length rows → n ≡ suc k → p ≡ n + place_first (drop n rows) f w → m ≡ matches_at rows k f w → q ≡ cond m k p
    → q ≡ k + place_first (drop k rows) f w
turned k n f w {p = p} {m = m} l e i h o =
    let s : suc k + place_first (drop (suc k) rows) f w ≡ k + 1 + place_first (drop (suc k) rows) f w = omega arith in
    o ∙ chosen m k p ∙ ap₂ (λ (c : Bool) (x : ℕ). pick c k x) h (i ∙ ap (λ (x : ℕ). x + place_first (drop x rows) f w) e ∙ s) ∙ sym (step_down rows k k f w l)
  where
    chosen : (b : Bool) (x y : ℕ) → cond b x y ≡ pick b x y
    chosen true x y = refl
    chosen false x y = refl
