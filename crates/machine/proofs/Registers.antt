-- The laws of the registers: two slots of one file lie apart, two files of the list do not see each other, and files put in are the files.
use mathlib.Core.Path.{◌≡◌, refl, sym, ◌∙◌, ap}
use mathlib.Core.Bool.{false}
use mathlib.Core.List.{List, [], ◌∷◌}
use Prim.Native.Nat.{ℕ, zero, suc, ◌+◌, ◌*◌, ◌≤◌, ◌<◌}
use native.Mathlib.Omega.{arith}
use native.Mathlib.Decide.{dec_lt}
use lib.Dec.{eqb}
use lib.ListN.{length, get_or, take, length-take}
use borrow.Author.Tests.{eqb-false, eq-eqb}
use Rattle.element.specs.Slots.{slot, set_slot}
use Rattle.element.proofs.Slots.{set_slot_length}
use Rattle.order.specs.Banks.{Register, same_register, change}
use Rattle.order.proofs.Parts.{sets_comm, slice_before, slice_behind}
use Rattle.order.proofs.Changes.{read_change, change_comm, length_change}
use Rattle.machine.specs.Machine.{Machine, gap, slot_used, files, with_files, get, put, next}
use Rattle.machine.specs.Claims.{RegisterLaws}

-- ---- one file
module _ (size n : ℕ) (apart : (j k : ℕ) → j < k → size * j + n ≤ size * k) where
  slot_other : (j k : ℕ) (c file : List ℕ) → eqb j k ≡ false → slot size n k (set_slot size n j c file) ≡ slot size n k file
  unfolding slot set_slot
  slot_other j k c file h = go (dec_lt j k)
    where
      go : Dec (j < k) → slot size n k (set_slot size n j c file) ≡ slot size n k file
      go (yes l) = slice_behind (take n c) file (size * j) (size * k) (size * k + n) (omega (arith, apart j k l, length-take n c)) (omega arith)
      go (no l) = slice_before (take n c) file (size * j) (size * k) (size * k + n) (apart k j (omega (arith, eqb-false j k h)))

  slots_comm : (j k : ℕ) (c d file : List ℕ) → eqb j k ≡ false → set_slot size n j c (set_slot size n k d file) ≡ set_slot size n k d (set_slot size n j c file)
  unfolding set_slot
  slots_comm j k c d file h = go (dec_lt j k)
    where
      go : Dec (j < k) → set_slot size n j c (set_slot size n k d file) ≡ set_slot size n k d (set_slot size n j c file)
      go (yes l) = sym (sets_comm (take n c) file (size * j) (size * k) (take n d) (omega (arith, apart j k l, length-take n c)))
      go (no l) = sets_comm (take n d) file (size * k) (size * j) (take n c) (omega (arith, apart k j (omega (arith, eqb-false j k h)), length-take n d))

-- ---- files put in are the files: four of them, the last of four index registers
list_of_four : (u : List ℕ) → length u ≡ 4 → get_or u 0 0 ∷ get_or u 1 0 ∷ get_or u 2 0 ∷ get_or u 3 0 ∷ [] ≡ u
list_of_four [] h = absurd (omega arith)
list_of_four (a ∷ []) h = absurd (omega arith)
list_of_four (a ∷ b ∷ []) h = absurd (omega arith)
list_of_four (a ∷ b ∷ c ∷ []) h = absurd (omega arith)
list_of_four (a ∷ b ∷ c ∷ d ∷ []) h = refl
list_of_four (a ∷ b ∷ c ∷ d ∷ e ∷ l) h = absurd (omega arith)

files_with : (l : List (List ℕ)) (m : Machine) → length l ≡ 4 → length (get_or l 3 []) ≡ 4 → files (with_files l m) ≡ l
files_with [] m h k = absurd (omega arith)
files_with (x ∷ []) m h k = absurd (omega arith)
files_with (x ∷ y ∷ []) m h k = absurd (omega arith)
files_with (x ∷ y ∷ z ∷ []) m h k = absurd (omega arith)
files_with (x ∷ y ∷ z ∷ u ∷ []) m h k = ap (λ (w : List ℕ). x ∷ y ∷ z ∷ w ∷ []) (list_of_four u k)
files_with (x ∷ y ∷ z ∷ u ∷ v ∷ l) m h k = absurd (omega arith)

-- ---- registers
module _ (vl : ℕ) (small : vl ≤ 2048) where
  apart : (b j k : ℕ) → j < k → gap b * j + slot_used vl b ≤ gap b * k
  apart zero j k h = omega arith
  apart (suc zero) j k h = omega arith
  apart (suc (suc zero)) j k h = omega arith
  apart (suc (suc (suc zero))) j k h = omega arith
  apart (suc (suc (suc (suc b)))) j k h = omega arith

  abbrev loaded : Register → List ℕ → List ℕ
  loaded r = slot (gap r.bank) (slot_used vl r.bank) r.at

  abbrev stored : Register → List ℕ → List ℕ → List ℕ
  stored r c = set_slot (gap r.bank) (slot_used vl r.bank) r.at c

  files_put : (r : Register) (c : List ℕ) (m : Machine) → files (put vl r c m) ≡ change r.bank (stored r c) (files m)
  unfolding put
  files_put r c m =
      files_with (change r.bank (stored r c) (files m)) m (length_change r.bank (stored r c) (files m))
      (read_change 3 r.bank (stored r c) length [] (files m) (λ e x. set_slot_length (gap r.bank) (slot_used vl r.bank) r.at c x))

  get_put : (r s : Register) (c : List ℕ) (m : Machine) → same_register s r ≡ false → get vl r (put vl s c m) ≡ get vl r m
  unfolding get
  get_put r s c m h =
      ap (λ (l : List (List ℕ)). loaded r (get_or l r.bank [])) (files_put s c m)
      ∙ read_change r.bank s.bank (stored s c) (loaded r) [] (files m) inside
    where
      inside : r.bank ≡ s.bank → (x : List ℕ) → loaded r (stored s c x) ≡ loaded r x
      inside e x =
          let k : eqb s.at r.at ≡ false = rw (eq-eqb s.bank r.bank (sym e)) at h in
          rw e (slot_other (gap s.bank) (slot_used vl s.bank) (apart s.bank) s.at r.at c x k)

  put_put : (r s : Register) (c d : List ℕ) (m : Machine) → same_register r s ≡ false → put vl r c (put vl s d m) ≡ put vl s d (put vl r c m)
  unfolding put
  put_put r s c d m h =
      ap (λ (l : List (List ℕ)). with_files (change r.bank (stored r c) l) m) (files_put s d m)
      ∙ ap (λ (l : List (List ℕ)). with_files l m) (change_comm r.bank s.bank (stored r c) (stored s d) (files m) inside)
      ∙ ap (λ (l : List (List ℕ)). with_files (change s.bank (stored s d) l) m) (sym (files_put r c m))
    where
      inside : r.bank ≡ s.bank → (x : List ℕ) → stored r c (stored s d x) ≡ stored s d (stored r c x)
      inside e x =
          let k : eqb r.at s.at ≡ false = rw (eq-eqb r.bank s.bank e) at h in
          rw e (slots_comm (gap s.bank) (slot_used vl s.bank) (apart s.bank) r.at s.at c d x k)

pub registers : RegisterLaws
unfolding get put next
registers vl small = record {
  get_put = get_put vl small;
  put_put = put_put vl small;
  get_next = λ r m. refl;
  put_next = λ r c m. refl;
  flags_put = λ r c m. refl;
  flags_next = λ m. refl;
}
