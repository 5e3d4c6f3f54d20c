-- The fields of a word that meets its row's condition make an instruction in range, and are written back: row by row.
use mathlib.Core.Path.{◌≡◌, ap₂, subst}
use mathlib.Core.Bool.{true, not, ◌||◌}
use mathlib.Core.List.{List, [], ◌∷◌}
use Prim.Native.Nat.{ℕ, ◌+◌, ◌-◌, ◌*◌, ◌%◌, ◌/◌, ◌<◌, ◌≤◌}
use native.Mathlib.Omega.{arith}
use lib.Dec.{eqb}
use borrow.Author.Tests.{eq-eqb, eqb-true, lt-ltb, le-leb, not-true}
use Rattle.encoding.specs.Layout.{fields_of}
use Rattle.encoding.specs.Instructions.{is_portions, read_pext, in_range, raw_of}
use Rattle.encoding.specs.Rows.{Row, pext1, pext2, psel, luti4c, luti4s, narrow}
use Rattle.encoding.specs.declared.Instruction.{Instruction}
use Rattle.encoding.proofs.FieldBits.{log_size, psel_read, size_luti, zd_strided, ShiftRead, narrow_read, digit_set}

-- an instruction in range whose fields are xs
pub record Writes (i : Instruction) (xs : List ℕ) : Type 0 where
  pub range : in_range i ≡ true
  pub back : raw_of i ≡ xs

pext_writes_lem : (portions s p n d : ℕ) → s < 4 → n < 8 → d < 16 → is_portions (portions * p) portions ≡ true → portions * p / portions ≡ p
    → Writes (read_pext portions (s ∷ p ∷ n ∷ d ∷ [])) (s ∷ p ∷ n ∷ d ∷ [])
pext_writes_lem portions s p n d hs hn hd some back_p =
    let l : 8 ≤ 8 + n = omega arith in
    let u : 8 + n < 16 = omega arith in
    let back-n : 8 + n - 8 ≡ n = omega arith in
    record {
      range = simp ((log_size s hs).1, some, le-leb 8 (8 + n) l, lt-ltb (8 + n) 16 u, lt-ltb d 16 hd);
      back = simp ((log_size s hs).0, back_p, back-n);
    }

psel_writes : (a b c v pn pm pd : ℕ) → a < 2 → b < 2 → c < 8 → v < 4 → pn < 16 → pm < 16 → pd < 16 → not (eqb (b * 8 + c) 0) ≡ true
    → Writes (psel.reading (a ∷ b ∷ c ∷ v ∷ pn ∷ pm ∷ pd ∷ [])) (a ∷ b ∷ c ∷ v ∷ pn ∷ pm ∷ pd ∷ [])
psel_writes a b c v pn pm pd ha hb hc hv hn hm hd e =
    let t = a * 16 + (b * 8 + c) in
    let l : t % 16 ≡ b * 8 + c = omega arith in
    let r = psel_read t (omega arith) (rw l (not-true (eqb (b * 8 + c) 0) e)) in
    let g : 12 ≤ 12 + v = omega arith in
    let u : 12 + v < 16 = omega arith in
    let back-v : 12 + v - 12 ≡ v = omega arith in
    let back_a : t / 16 ≡ a = omega arith in
    let back-b : t / 8 % 2 ≡ b = omega arith in
    let back-c : t % 8 ≡ c = omega arith in
    record {
      range = simp (r.size, r.offset, le-leb 12 (12 + v) g, lt-ltb (12 + v) 16 u, lt-ltb pn 16 hn, lt-ltb pm 16 hm, lt-ltb pd 16 hd);
      back = simp (r.back, back-v, back_a, back-b, back-c);
    }

luti4c_writes : (i1 s zn d : ℕ) → i1 < 2 → zn < 32 → d < 8 → (eqb s 1 || eqb s 2) ≡ true
    → Writes (luti4c.reading (i1 ∷ s ∷ zn ∷ d ∷ [])) (i1 ∷ s ∷ zn ∷ d ∷ [])
luti4c_writes i1 s zn d hi hn hd e =
    let four : 4 * d % 4 ≡ 0 = omega arith in
    let most : 4 * d ≤ 28 = omega arith in
    let back-d : 4 * d / 4 ≡ d = omega arith in
    let n = size_luti s e in
    record {
      range = simp (n.0, lt-ltb i1 2 hi, lt-ltb zn 32 hn, eq-eqb (4 * d % 4) 0 four, le-leb (4 * d) 28 most);
      back = ap₂ (λ (x y : ℕ). i1 ∷ x ∷ zn ∷ y ∷ []) n.1 back-d;
    }

luti4s_writes : (i1 s zn D d : ℕ) → i1 < 2 → zn < 32 → D < 2 → d < 4 → eqb s 1 ≡ true
    → Writes (luti4s.reading (i1 ∷ s ∷ zn ∷ D ∷ d ∷ [])) (i1 ∷ s ∷ zn ∷ D ∷ d ∷ [])
luti4s_writes i1 s zn D d hi hn hD hd e =
    let back-D : (16 * D + d) / 16 ≡ D = omega arith in
    let back-d : (16 * D + d) % 16 ≡ d = omega arith in
    rw (eqb-true s 1 e) (record { range = simp (lt-ltb i1 2 hi, lt-ltb zn 32 hn, zd_strided D d hD hd); back = ap₂ (λ (x y : ℕ). i1 ∷ 1 ∷ zn ∷ x ∷ y ∷ []) back-D back-d })

narrow_writes : (h l m op u r t zn zd : ℕ) → h < 2 → l < 4 → m < 8 → op < 2 → u < 2 → r < 2 → t < 2 → zn < 32 → zd < 32 → not (eqb (h * 4 + l) 0) ≡ true
    → Writes (narrow.reading (h ∷ l ∷ m ∷ op ∷ u ∷ r ∷ t ∷ zn ∷ zd ∷ [])) (h ∷ l ∷ m ∷ op ∷ u ∷ r ∷ t ∷ zn ∷ zd ∷ [])
narrow_writes h l m op u r t zn zd hh hl hm ho hu hr ht hn hd e =
    let v = (h * 4 + l) * 8 + m in
    let tsz : v / 8 ≡ h * 4 + l = omega arith in
    let n = subst (λ (x : ℕ). ShiftRead x v) tsz (narrow_read v (omega arith) (rw tsz (not-true (eqb (h * 4 + l) 0) e))) in
    let back-h : v / 32 ≡ h = omega arith in
    let back_l : v / 8 % 4 ≡ l = omega arith in
    let back-m : v % 8 ≡ m = omega arith in
    record {
      range = simp (n.size, n.shift, lt-ltb zn 32 hn, lt-ltb zd 32 hd);
      back = simp (n.back, back-h, back_l, back-m, digit_set op ho, digit_set u hu, digit_set r hr, digit_set t ht);
    }

-- ---- every row
-- the fields of a word that meets the row's field condition
abbrev pub RowWrites : Row → Type 0
RowWrites r = (w : ℕ) → r.condition (fields_of r.layout w) ≡ true → Writes (r.reading (fields_of r.layout w)) (fields_of r.layout w)

pub pext1_writes : RowWrites pext1
pext1_writes w e =
    let imm2 = w / 0x100 % 4 in
    let lt : 1 * imm2 < 4 = omega arith in
    pext_writes_lem 1 (w / 0x400000 % 4) imm2 (w / 32 % 8) (w / 1 % 16) (omega arith) (omega arith) (omega arith) (simp (lt-ltb (1 * imm2) 4 lt)) (omega arith)

pub pext2_writes : RowWrites pext2
pext2_writes w e =
    let i1 = w / 0x100 % 2 in
    let lt : 2 * i1 < 4 = omega arith in
    let even : 2 * i1 % 2 ≡ 0 = omega arith in
    pext_writes_lem 2 (w / 0x400000 % 4) i1 (w / 32 % 8) (w / 1 % 16) (omega arith) (omega arith) (omega arith) (simp (lt-ltb (2 * i1) 4 lt, eq-eqb (2 * i1 % 2) 0 even)) (omega arith)

pub psel_row_writes : RowWrites psel
psel_row_writes w e =
    psel_writes (w / 0x800000 % 2) (w / 0x400000 % 2) (w / 0x40000 % 8) (w / 0x10000 % 4) (w / 0x400 % 16) (w / 32 % 16) (w / 1 % 16)
    (omega arith) (omega arith) (omega arith) (omega arith) (omega arith) (omega arith) (omega arith) e

pub luti4c_row_writes : RowWrites luti4c
luti4c_row_writes w e = luti4c_writes (w / 0x10000 % 2) (w / 0x1000 % 4) (w / 32 % 32) (w / 4 % 8) (omega arith) (omega arith) (omega arith) e

pub luti4s_row_writes : RowWrites luti4s
luti4s_row_writes w e = luti4s_writes (w / 0x10000 % 2) (w / 0x1000 % 4) (w / 32 % 32) (w / 16 % 2) (w / 1 % 4) (omega arith) (omega arith) (omega arith) (omega arith) e

pub narrow_row_writes : RowWrites narrow
narrow_row_writes w e =
    narrow_writes (w / 0x400000 % 2) (w / 0x80000 % 4) (w / 0x10000 % 8) (w / 0x2000 % 2) (w / 0x1000 % 2) (w / 0x800 % 2) (w / 0x400 % 2) (w / 32 % 32) (w / 1 % 32)
    (omega arith) (omega arith) (omega arith) (omega arith) (omega arith) (omega arith) (omega arith) (omega arith) (omega arith) e
