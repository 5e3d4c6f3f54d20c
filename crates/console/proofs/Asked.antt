-- What a register request gives in each case, over any slots: nothing where a test refuses it, and what is lent of a slot is the slot.
use Rattle.std.proofs.Common.{◌≡◌, true, false, ◌&&◌, ℕ, ◌+◌, ◌-◌, ◌*◌, ◌/◌, ◌≤◌, ◌<◌, List, [], length, take, drop, arith}
use Rattle.std.proofs.Math.Nat.{mul-le-mul_left, mul-add, mul_comm, div-le_of_le-mul}
use mathlib.Core.Bool.{and-false}
use lib.Dec.{ltb}
use borrow.Author.Tests.{le-ltb, lt-ltb, eq-eqb, ne_eqb}
use Rattle.setting.specs.Allowed.{length_allowed}
use Rattle.element.proofs.Slots.{slot_part}
use Rattle.counter.proofs.Lengths.{length_is}
use Rattle.console.specs.Parts.{part_of}

module _ (whole slots size n vl k : ℕ) (file : List ℕ) where
  pub unallowed : length_allowed vl ≡ false → [] ≡ part_of whole slots size n vl k file
  unfolding part_of
  unallowed h = rw h

  pub too_high : slots ≤ k → [] ≡ part_of whole slots size n vl k file
  unfolding part_of
  too_high h = rw (le-ltb k slots h, and-false (length_allowed vl))

  pub other_length : (length file ≡ whole → ⊥) → [] ≡ part_of whole slots size n vl k file
  unfolding part_of
  other_length h = rw (ne_eqb (length file) whole h, and-false (length_allowed vl && ltb k slots))

  module _ (a : length_allowed vl ≡ true) (below : k < slots) (e : length file ≡ whole) (w : whole ≡ slots * size) (room : n ≤ size) where
    -- a slot that has room for n bytes lies in the file, which is its slots
    inside : size * k + n ≤ length file
    inside =
        let next : size * (k + 1) ≤ size * slots = mul-le-mul_left size (omega arith) in
        omega (arith, next, mul-add size k 1, mul_comm slots size)

    pub given_part : take (size * k + n - size * k) (drop (size * k) file) ≡ part_of whole slots size n vl k file
    unfolding part_of
    given_part = rw (a, lt-ltb k slots below, eq-eqb (length file) whole e) (slot_part size n k file inside)

-- a byte for each `bits` bits of an allowed VL has room, where one for each of 2048 has
pub has_room : (vl bits size : ℕ) → length_allowed vl ≡ true → 0 < bits → 2048 ≤ size * bits → vl / bits ≤ size
has_room vl bits size a some h = div-le_of_le-mul bits (omega (arith, (length_is vl a).most, mul_comm size bits))
