-- Chunks of a list: element j of chunk i is element i * per + j of the list, also while the chunks before it are written over.
use mathlib.Core.Path.{◌≡◌, refl, sym, ap, ◌∙◌}
use mathlib.Core.List.{List, ◌++◌}
use Prim.Native.Nat.{ℕ, ◌+◌, ◌-◌, ◌*◌, ◌≤◌, ◌<◌}
use native.Mathlib.Nat.{add-mul, mul_assoc}
use native.Mathlib.Omega.{arith}
use lib.ListN.{length, take, drop, length-drop}
use lib.Seq.{drop_at, drop-drop}
use borrow.Rule.Slice.PartMut.{put_mid}
use Rattle.std.proofs.lemmas.List.{drop-take, take-take}
use Rattle.element.specs.Contents.{num, elem, fill}
use Rattle.element.specs.Slots.{slot, set_slot}
use Rattle.element.proofs.Filling.{fill_length, same, span, turn}
use Rattle.element.proofs.Slots.{slot_part, put_back}

within : (m a n : ℕ) (l : List ℕ) → a + n ≤ m → take n (drop a (take m l)) ≡ take n (drop a l)
within m a n l h =
    let e : m ≡ a + (m - a) = omega arith in
    let k : n ≤ m - a = omega arith in
    rw (e, drop-take a (m - a) l) (take-take n (m - a) (drop a l) k)

-- element j of the chunk of c bytes at i
in_chunk : (w per c n i j : ℕ) (s : List ℕ) → per * w ≡ c → i < n → j < per → length s ≡ n * c → elem w j (take (i * c + c - i * c) (drop (i * c) s)) ≡ elem w (i * per + j) s
unfolding elem
in_chunk w per c n i j s whole h g l =
    let t : j * w + w ≤ c = rw whole at (turn j per w g) in
    let u = turn i n c h in
    let d = length-drop (i * c) s in
    let q : i * c + j * w ≡ (i * per + j) * w = sym (add-mul (i * per) j w ∙ ap (λ (m : ℕ). m + j * w) (mul_assoc i per w ∙ ap (λ (m : ℕ). i * m) whole)) in
    rw (span i c) (ap num (within c (j * w) w (drop (i * c) s) t ∙ ap (take w) (drop-drop (j * w) (i * c) s ∙ ap (λ (m : ℕ). drop m s) q)))

-- chunk i is the old one while those before it are written
unwritten : (f : ℕ → ℕ) (w per i : ℕ) (o₀ o : List ℕ) → o ≡ fill f w (i * per) ++ drop (i * (per * w)) o₀ → drop (i * (per * w)) o ≡ drop (i * (per * w)) o₀
unwritten f w per i o₀ o e = rw (e, drop_at (fill f w (i * per)) (drop (i * (per * w)) o₀) (i * (per * w)) (fill_length f w (i * per) ∙ mul_assoc i per w))

-- so what is made of the chunks of s and o is what is made of the elements of s and of the first o
pub chunk_made : (g : ℕ → ℕ → ℕ) (w per n i : ℕ) (s o₀ o : List ℕ) {ys : List ℕ}
    → i < n
    → length s ≡ n * (per * w)
    → length o₀ ≡ n * (per * w)
    → o ≡ fill (λ e. g (elem w e s) (elem w e o₀)) w (i * per) ++ drop (i * (per * w)) o₀
    → ys ≡ fill (λ e. g (elem w e (take (i * (per * w) + per * w - i * (per * w)) (drop (i * (per * w)) s))) (elem w e (take (i * (per * w) + per * w - i * (per * w)) (drop (i * (per * w)) o)))) w per
    → ys ≡ fill (λ j. g (elem w (i * per + j) s) (elem w (i * per + j) o₀)) w per
chunk_made g w per n i s o₀ o h ls lo e ey =
    ey
    ∙ ap (λ (x : List ℕ). fill (λ k. g (elem w k (take (i * (per * w) + per * w - i * (per * w)) (drop (i * (per * w)) s))) (elem w k (take (i * (per * w) + per * w - i * (per * w)) x))) w per) (unwritten _ w per i o₀ o e)
    ∙ same _ _ w per (λ j v. ap (λ (x : ℕ). g x (elem w j (take (i * (per * w) + per * w - i * (per * w)) (drop (i * (per * w)) o₀)))) (in_chunk w per (per * w) n i j s refl h v ls) ∙ ap (λ (x : ℕ). g (elem w (i * per + j) s) x) (in_chunk w per (per * w) n i j o₀ refl h v lo))

-- the slot l, lent once and come back with what is made of its elements and those of the slot k, of which s is a copy
pub slot_made : (g : ℕ → ℕ → ℕ) (w count m k l : ℕ) (z s : List ℕ) {ys : List ℕ}
    → 256 * l + m ≤ length z
    → count * w ≡ m
    → s ≡ slot 256 m k z
    → ys ≡ fill (λ e. g (elem w e s) (elem w e (take (256 * l + m - 256 * l) (drop (256 * l) z)))) w count
    → put_mid (256 * l) (256 * l + m - 256 * l) z ys ≡ set_slot 256 m l (fill (λ e. g (elem w e (slot 256 m k z)) (elem w e (slot 256 m l z))) w count) z
slot_made g w count m k l z s h whole es ey =
    put_back 256 m l z _ _ h (fill_length _ w count ∙ whole)
    (ey
    ∙ ap (λ (x : List ℕ). fill (λ e. g (elem w e x) (elem w e (take (256 * l + m - 256 * l) (drop (256 * l) z)))) w count) es
    ∙ ap (λ (x : List ℕ). fill (λ e. g (elem w e (slot 256 m k z)) (elem w e x)) w count) (slot_part 256 m l z h))
