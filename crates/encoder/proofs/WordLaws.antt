-- What the sums of `words` ask of fields in range, and that each sum is the word of its layout: digits at their places, by linear arithmetic.
use mathlib.Core.Path.{◌≡◌, sym, ap, ◌∙◌}
use mathlib.Core.Bool.{Bool, true, ◌&&◌, ◌||◌}
use mathlib.Core.List.{[]}
use Prim.Native.Nat.{ℕ, ◌+◌, ◌-◌, ◌*◌, ◌%◌, ◌/◌, ◌<◌, ◌≤◌}
use native.Mathlib.Omega.{arith}
use lib.Dec.{eqb, ltb, leb, lit<, lit≤}
use borrow.Author.Tests.{eqb-true, leb-true}
use Rattle.element.specs.Units.{log_of}
use Rattle.element.proofs.Tests.{both_yes}
use Rattle.element.proofs.Units.{log_is, size_is}
use Rattle.encoding.specs.Layout.{word_of, fixed_of}
use Rattle.encoding.specs.Instructions.{in_range, raw_psel_bits, narrow_number, raw_of}
use Rattle.encoding.specs.Places.{layout_at}
use Rattle.encoding.specs.Rows.{row_of, place_of, psel, luti4c, luti4s, narrow}
use Rattle.encoding.specs.declared.Instruction.{Instruction}
use Rattle.encoding.specs.declared.Instruction.TheVariants.{Pext, Psel, Luti4c, Luti4s, Narrow}
use Rattle.encoding.proofs.FieldBits.{luti_size, strided_zd, narrow_bits, narrow_cases, digit_lt}
use Rattle.encoding.proofs.InRange.{pext_ranges, portions_cases, luti_ranges, narrow_ranges}
use Rattle.encoding.proofs.Round.{column_at_place}

-- what is known of the instruction in an arm
pub known_word : {i j : Instruction} (w : ℕ) → i ≡ j → fixed_of (row_of j).layout + w ≡ word_of (row_of j).layout (raw_of j) → fixed_of (row_of i).layout + w ≡ word_of (row_of i).layout (raw_of i)
known_word w e h = rw e h

-- ---- what the sums ask
-- the number of portions divides the first, and what comes of it fits
pub divides : (size first portions counter pd : ℕ) → in_range (Pext size first portions counter pd) ≡ true → (0 < portions) × (first / portions < 4)
divides size first portions counter pd h =
    portions_cases (λ f n. (0 < n) × (f / n < 4)) (λ imm2 l. (lit< tt, omega arith)) (λ i1 l. (lit< tt, omega arith)) first portions (pext_ranges size first portions counter pd h).some

pub pext_asks : (size first portions counter pd raw : ℕ) → raw ≡ log_of size → in_range (Pext size first portions counter pd) ≡ true
    → (raw < 4) × (first / portions < 4) × (8 ≤ counter) × (counter < 16) × (pd < 16)
pext_asks size first portions counter pd raw e h =
    let r = pext_ranges size first portions counter pd h in
    (rw e (log_is size (size_is size r.sized)).small, (divides size first portions counter pd h).1, r.counter_ge, r.counter_lt, r.pd_lt)

pub luti4c_asks : (size i1 zn zd raw : ℕ) → raw ≡ log_of size → in_range (Luti4c size i1 zn zd) ≡ true → (raw < 4) × (i1 < 2) × (zn < 32) × (zd < 32)
luti4c_asks size i1 zn zd raw e h =
    let r = luti_ranges (eqb size 16 || eqb size 32) i1 zn (eqb (zd % 4) 0 && leb zd 28) h in
    let most = leb-true zd 28 (both_yes (eqb (zd % 4) 0) (leb zd 28) r.3).1 in
    (rw e (luti_size size r.0).lt, r.1, r.2, omega arith)

pub luti4s_asks : (size i1 zn zd raw : ℕ) → raw ≡ log_of size → in_range (Luti4s size i1 zn zd) ≡ true → (raw < 4) × (i1 < 2) × (zn < 32) × (zd < 32)
luti4s_asks size i1 zn zd raw e h =
    let r = luti_ranges (eqb size 16) i1 zn (ltb zd 4 || (leb 16 zd && ltb zd 20)) h in
    let d = strided_zd zd r.3 in
    (rw (e, eqb-true size 16 r.0) (lit< tt), r.1, r.2, omega arith)

pub narrow_asks : (op u r t : Bool) (size shift zn zd bits : ℕ) → bits ≡ narrow_number op u r t → in_range (Narrow op u r t size shift zn zd) ≡ true
    → (bits < 16) × (size ≤ 32) × (shift ≤ size) × (2 * size - shift < 64) × (zn < 32) × (zd < 32)
narrow_asks op u r t size shift zn zd bits e h =
    let g = narrow_ranges size shift zn zd h in
    let s : size ≤ 32 = narrow_cases (λ n. n ≤ 32) (lit≤ tt) (lit≤ tt) (lit≤ tt) size g.0 in
    let k = leb-true shift size (both_yes (leb 1 shift) (leb shift size) g.1).1 in
    (omega (arith, digit_lt op, digit_lt u, digit_lt r, digit_lt t), s, k, (narrow_bits size g.0 shift g.1).lt, g.2, g.3)

-- ---- with the fixed bits the sums are the words
pub pext_sum : (size first portions counter pd raw w : ℕ) → in_range (Pext size first portions counter pd) ≡ true → raw ≡ log_of size → w ≡ raw * 0x400000 + first / portions * 0x100 + (counter - 8) * 32 + pd
    → fixed_of (row_of (Pext size first portions counter pd)).layout + w ≡ word_of (row_of (Pext size first portions counter pd)).layout (raw_of (Pext size first portions counter pd))
pext_sum size first portions counter pd raw w h e =
    portions_cases (λ f n. w ≡ raw * 0x400000 + f / n * 0x100 + (counter - 8) * 32 + pd → fixed_of (row_of (Pext size f n counter pd)).layout + w ≡ word_of (row_of (Pext size f n counter pd)).layout (raw_of (Pext size f n counter pd)))
    (λ imm2 l q. omega arith) (λ i1 l q. omega arith) first portions (pext_ranges size first portions counter pd h).some

pub psel_sum : (size offset index pn pm pd bits w : ℕ) → bits ≡ raw_psel_bits size offset
    → w ≡ bits / 8 * 0x400000 + bits % 8 * 0x40000 + (index - 12) * 0x10000 + pn * 0x400 + pm * 32 + pd
    → fixed_of psel.layout + w ≡ word_of psel.layout (raw_of (Psel size offset index pn pm pd))
psel_sum size offset index pn pm pd bits w e q = rw (sym e) (omega arith)

pub luti4c_sum : (size i1 zn zd raw w : ℕ) → in_range (Luti4c size i1 zn zd) ≡ true → raw ≡ log_of size → w ≡ i1 * 0x10000 + raw * 0x1000 + zn * 32 + zd
    → fixed_of luti4c.layout + w ≡ word_of luti4c.layout (raw_of (Luti4c size i1 zn zd))
luti4c_sum size i1 zn zd raw w h e q =
    let r = luti_ranges (eqb size 16 || eqb size 32) i1 zn (eqb (zd % 4) 0 && leb zd 28) h in
    let four = eqb-true (zd % 4) 0 (both_yes (eqb (zd % 4) 0) (leb zd 28) r.3).0 in
    omega arith

pub luti4s_sum : (size i1 zn zd raw w : ℕ) → raw ≡ log_of size → w ≡ i1 * 0x10000 + raw * 0x1000 + zn * 32 + zd
    → fixed_of luti4s.layout + w ≡ word_of luti4s.layout (raw_of (Luti4s size i1 zn zd))
luti4s_sum size i1 zn zd raw w e q = omega arith

pub narrow_sum : (op u r t : Bool) (size shift zn zd bits w : ℕ) → bits ≡ narrow_number op u r t
    → w ≡ (2 * size - shift) / 32 * 0x400000 + (2 * size - shift) % 32 * 0x10000 + bits * 0x400 + zn * 32 + zd
    → fixed_of narrow.layout + w ≡ word_of narrow.layout (raw_of (Narrow op u r t size shift zn zd))
narrow_sum op u r t size shift zn zd bits w e q = omega arith

-- ---- the fixed bits from the table
pub with_fixed_bits : (i : Instruction) (y : ℕ) {k x : ℕ} → k ≡ place_of i → x ≡ fixed_of (layout_at k) → fixed_of (row_of i).layout + y ≡ word_of (row_of i).layout (raw_of i)
    → x + y ≡ word_of (row_of i).layout (raw_of i)
with_fixed_bits i y e h q = ap (λ (n : ℕ). n + y) (h ∙ ap (λ (j : ℕ). fixed_of (layout_at j)) e ∙ ap fixed_of (column_at_place (λ r. r.layout) [] i)) ∙ q
