-- The first row that matches, and that among layouts pairwise apart at most one matches, so that a row that matches is the first: by induction on the rows.
use mathlib.Core.Path.{◌≡◌, refl, sym, ap}
use mathlib.Core.Bool.{Bool, true, false, ◌&&◌}
use mathlib.Core.List.{List, [], ◌∷◌, map}
use Prim.Native.Nat.{ℕ, zero, suc, ◌≤◌}
use native.Mathlib.Omega.{arith}
use lib.Dec.{T}
use lib.ListN.{length, get_or}
use Rattle.setting.specs.Numbers.{accept, refuse}
use Rattle.element.proofs.Below.{both}
use Rattle.encoding.specs.Layout.{fields_of, matches}
use Rattle.encoding.specs.Rows.{Row, row_matches}
use Rattle.encoding.specs.Places.{place_first}
use Rattle.encoding.specs.Decode.{first_of, read_at}
use Rattle.encoding.specs.Claims.{NoRow, count_rows}
use Rattle.encoding.specs.declared.Instruction.{Instruction}
use Rattle.encoding.proofs.LayoutLaws.{sound}
use Rattle.encoding.proofs.Apart.{decide, apart, not_both}

-- every layout is sound and apart from each that follows it: one test over a list of rows
abbrev pub apart_from : Row → List Row → Bool
apart_from r [] = sound r.layout
apart_from r (q ∷ qs) = sound q.layout && apart r.layout q.layout && apart_from r qs

abbrev pub disjoint : List Row → Bool
disjoint [] = true
disjoint (r ∷ rs) = apart_from r rs && disjoint rs

-- the row at a place matches
abbrev pub matches_at : List Row → ℕ → ℕ → ℕ → Bool
matches_at rs k f w = get_or (map (λ (r : Row). row_matches r f w) rs) k false

pub read_past : (rs : List Row) (k w : ℕ) → length rs ≤ k → read_at rs k w ≡ refuse 3
read_past [] k w h = refl
read_past (r ∷ rs) zero w h = absurd (omega arith)
read_past (r ∷ rs) (suc k) w h = read_past rs k w (omega arith)

-- what is read is what the first row that matches reads
pub first_is_read : (rs : List Row) (f w : ℕ) → first_of rs f w ≡ read_at rs (place_first rs f w) w
unfolding place_first
first_is_read [] f w = refl
first_is_read (r ∷ rs) f w = decide (row_matches r f w) (λ m. simp m) (λ m. simp m (first_is_read rs f w))

own_sound : (r : Row) (rs : List Row) → T (apart_from r rs) → T (sound r.layout)
own_sound r [] a = a
own_sound r (q ∷ qs) a = own_sound r qs (both (sound q.layout && apart r.layout q.layout) (apart_from r qs) a).1

-- where a row's layout matches, none that is apart from it does
others_not : (r : Row) (rs : List Row) → T (apart_from r rs) → (w : ℕ) → matches r.layout w ≡ true → NoRow (λ q. matches q.layout w) rs
others_not r [] a w m = tt
others_not r (q ∷ qs) a w m =
    let p = both (sound q.layout && apart r.layout q.layout) (apart_from r qs) a in
    let o = both (sound q.layout) (apart r.layout q.layout) p.0 in
    (not_both r.layout q.layout (own_sound r qs p.1) o.0 o.1 w m, others_not r qs p.1 w m)

pub none_first : (rs : List Row) (f w : ℕ) → NoRow (λ r. row_matches r f w) rs → first_of rs f w ≡ refuse 3
none_first [] f w n = refl
none_first (r ∷ rs) f w n = simp n.0 (none_first rs f w n.1)

-- a row's layout matches where the row does
layout_matches : (r : Row) (f w : ℕ) → row_matches r f w ≡ true → matches r.layout w ≡ true
layout_matches r f w m = decide (matches r.layout w) (λ l. l) (λ l. let c = simp l at m in cc)

none_at : (rs : List Row) (k f w : ℕ) → NoRow (λ r. matches r.layout w) rs → matches_at rs k f w ≡ true → ⊥
none_at [] k f w n e = let z : ◌≡◌ {A = ℕ} 0 1 = cc in omega arith
none_at (r ∷ rs) zero f w n e = let l = layout_matches r f w e in let t = n.0 in let z : ◌≡◌ {A = ℕ} 0 1 = cc in omega arith
none_at (r ∷ rs) (suc k) f w n e = none_at rs k f w n.1 e

-- a row that matches is the first one, since no other layout matches
pub place_is : (rs : List Row) → T (disjoint rs) → (k f w : ℕ) → matches_at rs k f w ≡ true → place_first rs f w ≡ k
unfolding place_first
place_is [] d k f w m = let z : ◌≡◌ {A = ℕ} 0 1 = cc in absurd (omega arith)
place_is (r ∷ rs) d zero f w m = simp m
place_is (r ∷ rs) d (suc k) f w m =
    let p = both (apart_from r rs) (disjoint rs) d in
    decide (row_matches r f w)
    (λ l. absurd (none_at rs k f w (others_not r rs p.0 w (layout_matches r f w l)) m))
    (λ l. simp l (ap suc (place_is rs p.1 k f w m)))

count_none : (rs : List Row) (w : ℕ) → NoRow (λ r. matches r.layout w) rs → count_rows (λ r. matches r.layout w) rs ≡ 0
count_none [] w n = refl
count_none (r ∷ rs) w n = simp (n.0, count_none rs w n.1)

pub at_most_one : (rs : List Row) → T (disjoint rs) → (w : ℕ) → count_rows (λ r. matches r.layout w) rs ≤ 1
at_most_one [] d w = omega arith
at_most_one (r ∷ rs) d w =
    let p = both (apart_from r rs) (disjoint rs) d in
    decide (matches r.layout w)
    (λ m. simp (m, count_none rs w (others_not r rs p.0 w m)) (omega arith))
    (λ m. simp m (omega (arith, at_most_one rs p.1 w)))

-- a refusal with 3 means that no row matches
pub refused_none : (rs : List Row) (f w : ℕ) → first_of rs f w ≡ refuse 3 → NoRow (λ r. row_matches r f w) rs
refused_none [] f w e = tt
refused_none (r ∷ rs) f w e =
    decide (row_matches r f w)
    (λ m. let a = simp m at e in let z : ◌≡◌ {A = ℕ} 0 1 = cc in absurd (omega arith))
    (λ m. (m, refused_none rs f w (simp m at e)))

-- a test of every row of a list, and what it says of the one at a place
abbrev pub test_rows : (Row → Bool) → List Row → Bool
test_rows t [] = true
test_rows t (r ∷ rs) = t r && test_rows t rs

pub each_row : (t : Row → Bool) (rs : List Row) (d : Row) → T (test_rows t rs) → T (t d) → (k : ℕ) → T (t (get_or rs k d))
each_row t [] d a h k = h
each_row t (r ∷ rs) d a h zero = (both (t r) (test_rows t rs) a).0
each_row t (r ∷ rs) d a h (suc k) = each_row t rs d (both (t r) (test_rows t rs) a).1 h k

-- what holds of every row of a list
abbrev pub EveryRow : (Row → Type 0) → List Row → Type 0
EveryRow P [] = Unit {0}
EveryRow P (r ∷ rs) = P r × EveryRow P rs

-- what is accepted is some row's reading of the word's fields
pub accepted_by : (C : Instruction → Type 0) (f w : ℕ) (rs : List Row)
    → EveryRow (λ r. row_matches r f w ≡ true → C (r.reading (fields_of r.layout w))) rs → (i : Instruction) → first_of rs f w ≡ accept i → C i
accepted_by C f w [] p i e = let z : ◌≡◌ {A = ℕ} 0 1 = cc in absurd (omega arith)
accepted_by C f w (r ∷ rs) p i e =
    decide (row_matches r f w)
    (λ m. let a = simp m at e in let b : r.reading (fields_of r.layout w) ≡ i = cc in rw (sym b) (p.0 m))
    (λ m. accepted_by C f w rs p.1 i (simp m at e))
