-- A destination's part come back is its slot set as the definition says: by the lengths of what was made, and the indexes' places in the copy of Zn.
use mathlib.Core.Path.{◌≡◌, sym, ap, ◌∙◌}
use mathlib.Core.List.{List}
use Prim.Native.Nat.{ℕ, ◌+◌, ◌-◌, ◌*◌, ◌/◌, ◌≤◌, ◌<◌}
use native.Mathlib.Nat.{mul_assoc}
use native.Mathlib.Numerals.{add-one}
use native.Mathlib.Omega.{arith}
use lib.ListN.{length, take, drop}
use lib.Dec.{lit<}
use lib.Seq.{take-take}
use borrow.Rule.Slice.PartMut.{put_mid}
use Rattle.element.specs.Contents.{elem, field, fill}
use Rattle.element.specs.Slots.{slot}
use Rattle.element.proofs.Filling.{fill_length, same}
use Rattle.element.proofs.Slots.{reach, slot_part, slot_length, put_back}
use Rattle.lookup.specs.Lookup.{index_bits, position_of, luti_of, luti_file}
use Rattle.lookup.specs.Private.{LutiReady}
use Rattle.lookup.proofs.Places.{each_is, elements_are, place_inside, turn_at}
use Rattle.lookup.proofs.Lookups.{kept_field, taken_looked}

-- the n bytes from i on, as they are lent
abbrev part : ℕ → ℕ → List ℕ → List ℕ
part i n s = take (i + n - i) (drop i s)

-- the elements that the code makes of them
abbrev made : ℕ → ℕ → ℕ → List ℕ → List ℕ → List ℕ
made w i n s zt = fill (λ e. elem 4 (field index_bits e (part i n s)) zt) w (length (part i n s) * 2)

-- the low bytes of the whole slot
low_bytes : (n k : ℕ) (f : List ℕ) → n ≤ 256 → 256 * k + 256 ≤ length f → take n (slot 256 256 k f) ≡ slot 256 n k f
low_bytes n k f h l =
    let s : take 256 (drop (256 * k) f) ≡ slot 256 256 k f = rw (reach (256 * k) 256) at (slot_part 256 256 k f l) in
    let t : take n (drop (256 * k) f) ≡ slot 256 n k f = rw (reach (256 * k) n) at (slot_part 256 n k f (omega arith)) in
    ap (take n) (sym s) ∙ take-take n 256 (drop (256 * k) f) h ∙ t

module _ {file vl s d segment zn first stride each : ℕ} (op : LutiReady file vl index_bits s d segment zn first stride) (is : each ≡ vl / s * index_bits / 8) where
  elements : each * 2 ≡ vl / s
  elements = rw is (each_is vl op.lengths.even op.result)

  -- the bytes of indexes of a destination fill its room
  pub room_is : each * (2 * (s / 8)) ≡ vl / 8
  room_is = sym (mul_assoc each 2 (s / 8)) ∙ ap (λ (x : ℕ). x * (s / 8)) elements ∙ elements_are vl op.lengths.even op.result

  luti_length : (r : ℕ) (zn' zt : List ℕ) → length (luti_of index_bits s vl d segment r zn' zt) ≡ vl / 8
  unfolding luti_of
  luti_length r zn' zt = fill_length (λ e. elem 4 (field index_bits (position_of s vl d segment r e) zn') zt) (s / 8) (vl / s) ∙ elements_are vl op.lengths.even op.result

  -- the code's place and count, in the copy of the whole slot, are the definition's
  found : (r : ℕ) (zt z copy : List ℕ) → r < d → 256 * zn + 256 ≤ length z → copy ≡ slot 256 256 zn z
      → made (s / 8) ((d * segment + r) * each) each copy zt ≡ luti_of index_bits s vl d segment r (slot 256 (vl / 8) zn z) zt
  unfolding luti_of
  found r zt z copy l h c =
      let t = turn_at op r l is in
      let v = op.lengths in
      let n : length copy ≡ 256 = ap length c ∙ slot_length 256 256 zn z h in
      let i : (d * segment + r) * each * 2 ≡ (d * segment + r) * (vl / s) = mul_assoc (d * segment + r) each 2 ∙ ap (λ (x : ℕ). (d * segment + r) * x) elements in
      let k : slot 256 (vl / 8) zn z ≡ take (vl / 8) copy = sym (ap (take (vl / 8)) c ∙ low_bytes (vl / 8) zn z (omega arith) h) in
      taken_looked (s / 8) ((d * segment + r) * each) copy zt (reach ((d * segment + r) * each) each) i (omega arith)
      ∙ rw (elements, k)
      (same _ _ (s / 8) (vl / s) (λ e b. let p = place_inside index_bits s vl d segment r e (lit< tt) op.inside l b in ap (λ (x : ℕ). elem 4 x zt) (sym (kept_field (vl / 8) (position_of s vl d segment r e) copy (omega arith)))))

  -- a turn: destination r's part comes back as it was made of the copy
  pub turned : (r : ℕ) (zt z₀ z copy c : List ℕ)
      → r < d
      → 256 * (first + stride * r) + vl / 8 ≤ length z
      → 256 * zn + 256 ≤ length z₀
      → copy ≡ slot 256 256 zn z₀
      → z ≡ luti_file index_bits s vl d segment zn first stride zt z₀ r
      → c ≡ made (s / 8) ((d * segment + r) * each) each copy zt
      → put_mid (256 * (first + stride * r)) (256 * (first + stride * r) + vl / 8 - 256 * (first + stride * r)) z c ≡ luti_file index_bits s vl d segment zn first stride zt z₀ (r + 1)
  unfolding luti_file
  turned r zt z₀ z copy c l h h₀ e ez ec =
      put_back 256 (vl / 8) (first + stride * r) z c (luti_of index_bits s vl d segment r (slot 256 (vl / 8) zn z₀) zt) h (luti_length r _ zt) (ec ∙ found r zt z₀ copy l h₀ e)
      ∙ rw (add-one, ez)
