-- The chunks of a register are its bytes, and their elements its elements: once over the width.
use mathlib.Core.Path.{◌≡◌, sym, ap, ◌∙◌}
use mathlib.Core.Bool.{Bool, true}
use mathlib.Core.List.{List}
use Prim.Native.Nat.{ℕ, ◌*◌, ◌/◌, ◌%◌, ◌≤◌}
use native.Mathlib.Nat.{mul_assoc, div-eq_of_eq-mul_left}
use native.Mathlib.Omega.{arith}
use Rattle.logic.specs.Pick.{pick}
use Rattle.element.specs.Size.{is_result}
use Rattle.element.specs.Slots.{slot, set_slot}
use Rattle.narrowing.specs.Narrowing.{form}
use Rattle.narrowing.specs.Registers.{narrow_of}
use Rattle.narrow.specs.Private.{chunks_of, NarrowReady}

module _ {file vl s shift zn zd : ℕ} (ready : NarrowReady file vl s shift zn zd) (per w : ℕ) (whole : per * w ≡ 16) (some : 1 ≤ w) (size : s ≡ 4 * w) where
  bytes_are : vl / 128 % 32 * (per * w) ≡ vl / 8
  bytes_are = let l = ready.lengths in rw whole (omega arith)

  elements_are : vl / 128 % 32 * per ≡ vl / (2 * (4 * w))
  elements_are =
      let l = ready.lengths in
      let e : 2 * (4 * w) ≡ w * 8 = omega arith in
      let p : vl / 128 % 32 * per * w ≡ vl / 128 % 32 * 16 = mul_assoc (vl / 128 % 32) per w ∙ ap (λ (m : ℕ). vl / 128 % 32 * m) whole in
      let q : vl / 128 % 32 * per * (w * 8) ≡ vl / 128 % 32 * 16 * 8 = sym (mul_assoc (vl / 128 % 32 * per) w 8) ∙ ap (λ (m : ℕ). m * 8) p in
      let v : vl ≡ vl / 128 % 32 * per * (w * 8) = omega arith in
      sym (ap (λ (m : ℕ). vl / m) e ∙ div-eq_of_eq-mul_left (omega arith) v)

  pub chunks_are : is_result (4 * w) ≡ true
      → (op u r t : Bool) (z o : List ℕ)
      → o ≡ chunks_of (vl / 128 % 32) per w op u r t shift zn zd z
      → o ≡ pick (is_result s) (set_slot 256 (vl / 8) zd (narrow_of (form op u) r t s shift vl (slot 256 (vl / 8) zn z) (slot 256 (vl / 8) zd z)) z) z
  unfolding narrow_of
  chunks_are y op u r t z o h = let q : 4 * w / 4 ≡ w = omega arith in rw (size, y, q, ← bytes_are, ← elements_are) h
