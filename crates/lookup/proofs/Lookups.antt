-- One byte of indexes: its low and its high four bits are the definition's two fields, and name the two elements that are written as one number.
use mathlib.Core.Path.{◌≡◌, ap, ◌∙◌}
use mathlib.Core.Logic.{⊎_elim, inl, inr}
use mathlib.Core.List.{List}
use Prim.Native.Nat.{ℕ, ◌+◌, ◌-◌, ◌*◌, ◌/◌, ◌%◌, ◌^◌, ◌≤◌, ◌<◌}
use native.Mathlib.Omega.{arith}
use lib.ListN.{length, take, drop, get_or, length-take, length-drop}
use lib.Seq.{get_or-take, get_or-drop}
use Rattle.element.specs.Contents.{bytes, elem, field, fill}
use Rattle.element.proofs.Filling.{part_length, same}
use Rattle.part.specs.Parts.{stored_of}
use Rattle.part.specs.Private.{Width}
use Rattle.part.proofs.Widths.{element_stored}
use Rattle.lookup.specs.Lookup.{index_bits}
use Rattle.lookup.specs.Private.{ElementBytes}
use Rattle.lookup.proofs.Bytes.{both_bytes}

-- what the code's arithmetic asks of an element's width
pub record Sizes (w : ℕ) : Type 0 where
  pub pos : 0 < w
  pub double : Width (2 * w)
  pub some : 0 < 256 ^ w
  pub most : 256 ^ w ≤ 4294967296
  pub chunk : 32 / w * (2 * w) ≡ 64
  pub per : 0 < 32 / w

pub sizes : {w : ℕ} → ElementBytes w → Sizes w
sizes h =
    ⊎_elim
    (λ e. record { pos = omega arith; double = inr (inl (rw e)); some = rw e (omega arith); most = rw e (omega arith); chunk = rw e; per = rw e (omega arith) })
    (λ e. record { pos = omega arith; double = inr (inr (rw e)); some = rw e (omega arith); most = rw e (omega arith); chunk = rw e; per = rw e (omega arith) })
    h

-- ---- a byte's two fields
low_field : (q : ℕ) (s : List ℕ) → get_or s q 0 % 16 ≡ field index_bits (q * 2 + 0) s
unfolding field
low_field q s =
    let d : (q * 2 + 0) * 4 / 8 ≡ q = omega arith in
    let m : (q * 2 + 0) * 4 % 8 ≡ 0 = omega arith in
    rw (d, m) (omega arith)

high_field : (q : ℕ) (s : List ℕ) → get_or s q 0 < 256 → get_or s q 0 / 16 ≡ field index_bits (q * 2 + 1) s
unfolding field
high_field q s h =
    let d : (q * 2 + 1) * 4 / 8 ≡ q = omega arith in
    let m : (q * 2 + 1) * 4 % 8 ≡ 4 = omega arith in
    rw (d, m) (omega arith)

-- the number that the code makes of a byte
byte_looked : {x y : ℕ} (m w q : ℕ) (s zt : List ℕ)
    → m ≡ 256 ^ w
    → get_or s q 0 < 256
    → x ≡ elem 4 (get_or s q 0 % 16) zt
    → y ≡ elem 4 (get_or s q 0 / 16) zt % m * m
    → bytes (2 * w) (x % m + y) ≡ fill (λ j. elem 4 (field index_bits (q * 2 + j) s) zt) w 2
unfolding fill
byte_looked m w q s zt p h ex ey =
    let d : 2 * w ≡ w + w = omega arith in
    rw (d, ex, ey, p, both_bytes w (elem 4 (get_or s q 0 % 16) zt) (elem 4 (get_or s q 0 / 16) zt), low_field q s, high_field q s h)

-- so the part of byte q, when it has come back
pub pair_stored : {x y : ℕ} (m w q n : ℕ) (s zt o : List ℕ) {ys : List ℕ}
    → q < n
    → length o ≡ n * (2 * w)
    → ElementBytes w
    → m ≡ 256 ^ w
    → get_or s q 0 < 256
    → x ≡ elem 4 (get_or s q 0 % 16) zt
    → y ≡ elem 4 (get_or s q 0 / 16) zt % m * m
    → ys ≡ stored_of (take (q * (2 * w) + 2 * w - q * (2 * w)) (drop (q * (2 * w)) o)) (x % m + y)
    → ys ≡ fill (λ j. elem 4 (field index_bits (q * 2 + j) s) zt) w 2
pair_stored {x} {y} m w q n s zt o l e v p h ex ey st =
    element_stored q n (2 * w) o l e (sizes v).double (x % m + y) st
    ∙ ap (λ (k : ℕ). bytes k (x % m + y)) (part_length q n (2 * w) o l e)
    ∙ byte_looked m w q s zt p h ex ey

-- ---- the indexes of a part
pub taken_length : {k n : ℕ} (i : ℕ) (s : List ℕ) → k ≡ n → i + n ≤ length s → length (take k (drop i s)) ≡ n
taken_length i s e h = rw e (simp (length-take, length-drop) (omega arith))

pub kept_field : (n e : ℕ) (s : List ℕ) → e < n * 2 → field index_bits e (take n s) ≡ field index_bits e s
unfolding field
kept_field n e s h = rw (get_or-take n s (e * 4 / 8) 0 (omega arith))

taken_field : (i n e : ℕ) (s : List ℕ) → e < n * 2 → field index_bits e (take n (drop i s)) ≡ field index_bits (i * 2 + e) s
unfolding field
taken_field i n e s h =
    let d : (i * 2 + e) * 4 / 8 ≡ i + e * 4 / 8 = omega arith in
    let m : (i * 2 + e) * 4 % 8 ≡ e * 4 % 8 = omega arith in
    kept_field n e (drop i s) h ∙ rw (d, m, get_or-drop i s (e * 4 / 8) 0)

-- the elements that they name, from element `from` on
pub taken_looked : {k n from : ℕ} (w i : ℕ) (s zt : List ℕ) → k ≡ n → i * 2 ≡ from → i + n ≤ length s
    → fill (λ e. elem 4 (field index_bits e (take k (drop i s))) zt) w (length (take k (drop i s)) * 2) ≡ fill (λ e. elem 4 (field index_bits (from + e) s) zt) w (n * 2)
taken_looked {k} {n} {from} w i s zt e f h =
    rw (taken_length i s e h, e) (same _ _ w (n * 2) (λ j l. ap (λ (x : ℕ). elem 4 x zt) (taken_field i n j s l ∙ ap (λ (x : ℕ). field index_bits (x + j) s) f)))
