-- An instruction in range, form by form: what its range says of each field, that the fields fit the layout and meet the condition of its row, and that they are read back.
use mathlib.Core.Path.{◌≡◌, refl, ap, sym, subst}
use mathlib.Core.Bool.{Bool, true, ◌&&◌, ◌||◌}
use Prim.Native.Nat.{ℕ, ◌+◌, ◌-◌, ◌*◌, ◌%◌, ◌/◌, ◌<◌, ◌≤◌}
use native.Mathlib.Omega.{arith}
use lib.Dec.{eqb, ltb, leb, lit<}
use borrow.Author.Tests.{eqb-true, ltb-true, leb-true}
use Rattle.element.specs.Size.{is_size, is_result}
use Rattle.element.proofs.Tests.{both_yes}
use Rattle.element.proofs.Units.{log_is, size_is}
use Rattle.encoding.specs.Instructions.{is_p, is_z, is_portions, pext_in_range, is_offset, psel_in_range, luti_in_range, narrow_in_range, in_range, raw_psel_bits, raw_of}
use Rattle.encoding.specs.Rows.{row_of}
use Rattle.encoding.specs.declared.Instruction.{Instruction}
use Rattle.encoding.specs.declared.Instruction.TheVariants.{Pext, Psel, Luti4c, Luti4s, Narrow}
use Rattle.encoding.proofs.LayoutLaws.{Fit}
use Rattle.encoding.proofs.Apart.{decide}
use Rattle.encoding.proofs.FieldBits.{PselBits, psel_bits_lem, luti_size, strided_zd, narrow_bits, digit_lt, set_digit}

-- the fields that it is written with fit its row, meet its condition, and are read as it
pub record Reads (i : Instruction) : Type 0 where
  pub fit : Fit (row_of i).layout (raw_of i)
  pub holds : (row_of i).condition (raw_of i) ≡ true
  pub back : (row_of i).reading (raw_of i) ≡ i

-- ---- PEXT
pub record PextFields (size first portions counter pd : ℕ) : Type 0 where
  pub sized : is_size size ≡ true
  pub some : is_portions first portions ≡ true
  pub counter_ge : 8 ≤ counter
  pub counter_lt : counter < 16
  pub pd_lt : pd < 16

pub pext_ranges : (size first portions counter pd : ℕ) → pext_in_range size first portions counter pd ≡ true → PextFields size first portions counter pd
pext_ranges size first portions counter pd e =
    let a = both_yes (is_size size && is_portions first portions && (leb 8 counter && ltb counter 16)) (is_p pd) e in
    let b = both_yes (is_size size && is_portions first portions) (leb 8 counter && ltb counter 16) a.0 in
    let c = both_yes (is_size size) (is_portions first portions) b.0 in
    let d = both_yes (leb 8 counter) (ltb counter 16) b.1 in
    record { sized = c.0; some = c.1; counter_ge = leb-true 8 counter d.0; counter_lt = ltb-true counter 16 d.1; pd_lt = ltb-true pd 16 a.1 }

-- one of the four portions, or two from 2 · i1 on
pub portions_cases : (P : ℕ → ℕ → Type 0) → ((imm2 : ℕ) → imm2 < 4 → P imm2 1) → ((i1 : ℕ) → i1 < 2 → P (2 * i1) 2) → (first portions : ℕ) → is_portions first portions ≡ true → P first portions
portions_cases P one two first portions e =
    let a = both_yes (ltb first 4) _ e in
    let l = ltb-true first 4 a.0 in
    let m = a.1 in
    decide (eqb portions 1) (λ h. rw (eqb-true portions 1 h) (one first l))
    (λ h. let b = both_yes (eqb portions 2) _ (simp h at m) in
    let even = eqb-true (first % 2) 0 b.1 in
    let twice : 2 * (first / 2) ≡ first = omega arith in
    rw (eqb-true portions 2 b.0) (subst (λ (n : ℕ). P n 2) twice (two (first / 2) (omega arith))))

above : (k n : ℕ) → k ≤ n → k + (n - k) ≡ n
above k n h = omega arith

pext_reads : (size first portions counter pd : ℕ) → PextFields size first portions counter pd → Reads (Pext size first portions counter pd)
pext_reads size first portions counter pd r =
    let s = log_is size (size_is size r.sized) in
    let n : counter - 8 < 8 = omega (arith, r.counter_lt) in
    portions_cases (λ f k. Reads (Pext size f k counter pd))
    (λ imm2 h. let back-imm2 : 1 * (imm2 / 1) ≡ imm2 = omega arith in record {
      fit = (lit< tt, (s.small, (lit< tt, (lit< tt, (omega arith, (n, (lit< tt, (r.pd_lt, tt))))))));
      holds = refl;
      back = simp (sym s.is, back-imm2, above 8 counter r.counter_ge);
    })
    (λ i1 h. let back-i1 : 2 * (2 * i1 / 2) ≡ 2 * i1 = omega arith in record {
      fit = (lit< tt, (s.small, (lit< tt, (lit< tt, (lit< tt, (omega arith, (n, (lit< tt, (r.pd_lt, tt)))))))));
      holds = refl;
      back = simp (sym s.is, back-i1, above 8 counter r.counter_ge);
    })
    first portions r.some

-- ---- PSEL
pub record PselFields (size offset index pn pm pd : ℕ) : Type 0 where
  pub bits : PselBits size offset
  pub index_ge : 12 ≤ index
  pub index_lt : index < 16
  pub pn_lt : pn < 16
  pub pm_lt : pm < 16
  pub pd_lt : pd < 16

pub psel_ranges : (size offset index pn pm pd : ℕ) → psel_in_range size offset index pn pm pd ≡ true → PselFields size offset index pn pm pd
psel_ranges size offset index pn pm pd e =
    let a = both_yes (is_offset size offset && (leb 12 index && ltb index 16)) (is_p pn && is_p pm && is_p pd) e in
    let b = both_yes (is_offset size offset) (leb 12 index && ltb index 16) a.0 in
    let c = both_yes (is_size size) (ltb offset _) b.0 in
    let d = both_yes (leb 12 index) (ltb index 16) b.1 in
    let p = both_yes (is_p pn && is_p pm) (is_p pd) a.1 in
    let q = both_yes (is_p pn) (is_p pm) p.0 in
    record { bits = psel_bits_lem size c.0 offset (ltb-true offset _ c.1); index_ge = leb-true 12 index d.0; index_lt = ltb-true index 16 d.1; pn_lt = ltb-true pn 16 q.0; pm_lt = ltb-true pm 16 q.1; pd_lt = ltb-true pd 16 p.1 }

-- the three raw fields of i1:tszh:tszl put together again, and taken apart
joined : (t : ℕ) → t / 16 * 16 + (t / 8 % 2 * 8 + t % 8) ≡ t
joined t = omega arith

low_joined : (t : ℕ) → t / 8 % 2 * 8 + t % 8 ≡ t % 16
low_joined t = omega arith

psel_reads : (size offset index pn pm pd : ℕ) → PselFields size offset index pn pm pd → Reads (Psel size offset index pn pm pd)
psel_reads size offset index pn pm pd r =
    let t = raw_psel_bits size offset in
    let b = r.bits in
    record {
      fit = (lit< tt, (omega (arith, b.lt), (omega arith, (lit< tt, (omega arith, (omega (arith, r.index_lt), (lit< tt, (r.pn_lt, (lit< tt, (r.pm_lt, (lit< tt, (r.pd_lt, tt))))))))))));
      holds = rw (low_joined t) b.some;
      back = rw (joined t) (simp (b.size_back, b.offset_back, above 12 index r.index_ge));
    }

-- ---- LUTI4, both layouts: what they share is size, i1 and Zn
pub luti_ranges : (size : Bool) (i1 zn : ℕ) (first : Bool) → luti_in_range size i1 zn first ≡ true → (size ≡ true) × (i1 < 2) × (zn < 32) × (first ≡ true)
luti_ranges size i1 zn first e =
    let a = both_yes (size && ltb i1 2 && is_z zn) first e in
    let b = both_yes (size && ltb i1 2) (is_z zn) a.0 in
    let c = both_yes size (ltb i1 2) b.0 in
    (c.0, ltb-true i1 2 c.1, ltb-true zn 32 b.1, a.1)

luti4c_reads : (size i1 zn zd : ℕ) → in_range (Luti4c size i1 zn zd) ≡ true → Reads (Luti4c size i1 zn zd)
luti4c_reads size i1 zn zd e =
    let r = luti_ranges (eqb size 16 || eqb size 32) i1 zn (eqb (zd % 4) 0 && leb zd 28) e in
    let d = both_yes (eqb (zd % 4) 0) (leb zd 28) r.3 in
    let four = eqb-true (zd % 4) 0 d.0 in
    let most = leb-true zd 28 d.1 in
    let n = luti_size size r.0 in
    let back-zd : 4 * (zd / 4) ≡ zd = omega arith in
    record {
      fit = (lit< tt, (lit< tt, (r.1, (lit< tt, (n.lt, (lit< tt, (r.2, (omega arith, (lit< tt, tt)))))))));
      holds = n.one_of;
      back = simp (n.back, back-zd);
    }

luti4s_reads : (size i1 zn zd : ℕ) → in_range (Luti4s size i1 zn zd) ≡ true → Reads (Luti4s size i1 zn zd)
luti4s_reads size i1 zn zd e =
    let r = luti_ranges (eqb size 16) i1 zn (ltb zd 4 || (leb 16 zd && ltb zd 20)) e in
    let d = strided_zd zd r.3 in
    let back-zd : 16 * (zd / 16) + zd % 16 ≡ zd = omega arith in
    rw (eqb-true size 16 r.0) (record { fit = (lit< tt, (lit< tt, (r.1, (lit< tt, (lit< tt, (lit< tt, (r.2, (d.0, (lit< tt, (d.1, tt)))))))))); holds = refl; back = ap (Luti4s 16 i1 zn) back-zd })

-- ---- the narrowing words
pub narrow_ranges : (size shift zn zd : ℕ) → narrow_in_range size shift zn zd ≡ true
    → (is_result size ≡ true) × ((leb 1 shift && leb shift size) ≡ true) × (zn < 32) × (zd < 32)
narrow_ranges size shift zn zd e =
    let a = both_yes (is_result size && (leb 1 shift && leb shift size)) (is_z zn && is_z zd) e in
    let b = both_yes (is_result size) (leb 1 shift && leb shift size) a.0 in
    let z = both_yes (is_z zn) (is_z zd) a.1 in
    (b.0, b.1, ltb-true zn 32 z.0, ltb-true zd 32 z.1)

narrow_reads_lem : (op u r t : Bool) (size shift zn zd : ℕ) → in_range (Narrow op u r t size shift zn zd) ≡ true → Reads (Narrow op u r t size shift zn zd)
narrow_reads_lem op u r t size shift zn zd e =
    let b = narrow_ranges size shift zn zd e in
    let n = narrow_bits size b.0 shift b.1 in
    let v = 2 * size - shift in
    let tsz : v / 32 * 4 + v / 8 % 4 ≡ v / 8 = omega arith in
    let all-bits : v / 8 * 8 + v % 8 ≡ v = omega arith in
    record {
      fit = (lit< tt, (omega (arith, n.lt), (lit< tt, (omega arith, (omega arith, (lit< tt, (digit_lt op, (digit_lt u, (digit_lt r, (digit_lt t, (b.2, (b.3, tt))))))))))));
      holds = rw tsz n.some;
      back = simp (tsz, all-bits, n.size_back, n.shift_back, set_digit op, set_digit u, set_digit r, set_digit t);
    }

-- ---- every form
pub in_range_reads : (i : Instruction) → in_range i ≡ true → Reads i
in_range_reads (Pext size first portions counter pd) e = pext_reads size first portions counter pd (pext_ranges size first portions counter pd e)
in_range_reads (Psel size offset index pn pm pd) e = psel_reads size offset index pn pm pd (psel_ranges size offset index pn pm pd e)
in_range_reads (Luti4c size i1 zn zd) e = luti4c_reads size i1 zn zd e
in_range_reads (Luti4s size i1 zn zd) e = luti4s_reads size i1 zn zd e
in_range_reads (Narrow op u r t size shift zn zd) e = narrow_reads_lem op u r t size shift zn zd e

-- what is known of the instruction in an arm
pub known_range : {i j : Instruction} → i ≡ j → in_range i ≡ true → in_range j ≡ true
known_range e h = rw (sym e) h
