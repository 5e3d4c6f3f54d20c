-- What each leaf leaves of its file is the machine with the instruction's new contents put: the tests of the leaf hold of fields in range, and the slots are the table's.
use mathlib.Core.Path.{◌≡◌, refl}
use mathlib.Core.Bool.{Bool, true, false, ◌&&◌, ◌||◌}
use mathlib.Core.List.{List, [], ◌∷◌}
use Prim.Native.Nat.{ℕ, zero, suc, ◌+◌, ◌-◌, ◌*◌, ◌/◌, ◌%◌, ◌<◌, ◌≤◌}
use native.Mathlib.Nat.{add-zero}
use native.Mathlib.Omega.{arith}
use lib.Dec.{eqb, ltb, leb}
use lib.ListN.{length, get_or}
use lib.Seq.{slice, take_all}
use borrow.Author.Tests.{lt-ltb, le-leb, ltb-true, leb-true}
use Rattle.setting.specs.Allowed.{length_allowed}
use Rattle.element.specs.Files.{vector_file, predicate_file, table_file}
use Rattle.element.specs.Size.{is_size}
use Rattle.element.specs.Slots.{slot}
use Rattle.order.specs.Touch.{gets, puts}
use Rattle.encoding.specs.Instructions.{in_range, pext_in_range, psel_in_range, narrow_in_range}
use Rattle.element.proofs.Tests.{both_yes}
use Rattle.element.proofs.Units.{size_cases}
use Rattle.encoding.proofs.FieldBits.{strided_zd}
use Rattle.encoding.proofs.InRange.{pext_ranges, portions_cases, psel_ranges, luti_ranges, narrow_ranges}
use Rattle.encoding.specs.declared.Instruction.TheVariants.{Pext, Psel, Luti4c, Luti4s, Narrow}
use Rattle.pext.specs.Pext.{pext_ready, pext_slots, pext_leaves}
use Rattle.psel.specs.Psel.{psel_ready, psel_leaves}
use Rattle.lookup.specs.Lookup.{luti_file}
use Rattle.lookup.specs.Calls.{luti4_ready, luti4_file}
use Rattle.narrowing.specs.Registers.{placed, element, narrow_of}
use Rattle.narrowing.specs.Calls.{narrow_ready, narrow_file}
use Rattle.machine.specs.Machine.{machine, get, put}
use Rattle.machine.specs.Private.{Ready, done_of}
use Rattle.machine.specs.declared.Scalars.{Scalars}

-- the tests of the leaves hold
pext_ready_lem : (size first portions counter pd vl : ℕ) → pext_in_range size first portions counter pd ≡ true → length_allowed vl ≡ true → pext_ready predicate_file vl size first portions counter pd ≡ true
unfolding pext_ready
pext_ready_lem size first portions counter pd vl e a =
    let g = pext_ranges size first portions counter pd e in
    let few = portions_cases (λ f n. ((eqb n 1 || eqb n 2) ≡ true) × (f + n ≤ 4)) (λ imm2 h. (refl, omega arith)) (λ i1 h. (refl, omega arith)) first portions g.some in
    rw (a, g.sized, few.0, le-leb (first + portions) 4 few.1, lt-ltb counter 16 g.counter_lt, lt-ltb pd 16 g.pd_lt)

psel_ready_lem : (size offset index pn pm pd vl : ℕ) → psel_in_range size offset index pn pm pd ≡ true → length_allowed vl ≡ true → psel_ready predicate_file vl size offset pn pm pd ≡ true
unfolding psel_ready
psel_ready_lem size offset index pn pm pd vl e a =
    let g = psel_ranges size offset index pn pm pd e in
    let h = both_yes (is_size size) (ltb offset (128 / size)) (both_yes (is_size size && ltb offset (128 / size)) (leb 12 index && ltb index 16) (both_yes (is_size size && ltb offset (128 / size) && (leb 12 index && ltb index 16)) (ltb pn 16 && ltb pm 16 && ltb pd 16) e).0).0 in
    rw (a, h.0, lt-ltb offset 16 (offset_lt size offset h.0 (ltb-true offset (128 / size) h.1)), lt-ltb pn 16 g.pn_lt, lt-ltb pm 16 g.pm_lt, lt-ltb pd 16 g.pd_lt)
  where
    offset_lt : (n o : ℕ) → is_size n ≡ true → o < 128 / n → o < 16
    offset_lt n o h l = size_cases (λ n. (k : ℕ) → k < 128 / n → k < 16) (λ k l. l) (λ k l. omega arith) (λ k l. omega arith) (λ k l. omega arith) n h o l

narrow_ready_lem : (size shift zn zd vl : ℕ) → narrow_in_range size shift zn zd ≡ true → length_allowed vl ≡ true → narrow_ready vector_file vl size shift zn zd ≡ true
unfolding narrow_ready
narrow_ready_lem size shift zn zd vl e a =
    let g = narrow_ranges size shift zn zd e in
    let k = both_yes (leb 1 shift) (leb shift size) g.1 in
    let l : 0 < shift = leb-true 1 shift k.0 in
    rw (a, g.0, lt-ltb 0 shift l, k.1, lt-ltb zn 32 g.2, lt-ltb zd 32 g.3)

luti4c_ready : (size i1 zn zd vl : ℕ) → in_range (Luti4c size i1 zn zd) ≡ true → length_allowed vl ≡ true → luti4_ready vector_file table_file vl size i1 zn zd 1 ≡ true
unfolding luti4_ready
luti4c_ready size i1 zn zd vl e a =
    let g = luti_ranges (eqb size 16 || eqb size 32) i1 zn (eqb (zd % 4) 0 && leb zd 28) e in
    let most = leb-true zd 28 (both_yes (eqb (zd % 4) 0) (leb zd 28) g.3).1 in
    let l : zd + 3 * 1 < 32 = omega arith in
    rw (a, g.0, lt-ltb i1 2 g.1, lt-ltb zn 32 g.2, lt-ltb (zd + 3 * 1) 32 l)

luti4s_ready : (size i1 zn zd vl : ℕ) → in_range (Luti4s size i1 zn zd) ≡ true → length_allowed vl ≡ true → luti4_ready vector_file table_file vl size i1 zn zd 4 ≡ true
unfolding luti4_ready
luti4s_ready size i1 zn zd vl e a =
    let g = luti_ranges (eqb size 16) i1 zn (ltb zd 4 || (leb 16 zd && ltb zd 20)) e in
    let d = strided_zd zd g.3 in
    let l : zd + 3 * 4 < 32 = omega arith in
    rw (a, g.0, lt-ltb i1 2 g.1, lt-ltb zn 32 g.2, lt-ltb (zd + 3 * 4) 32 l)

-- the index register's slot holds its number
one_of_four : (j a b c d : ℕ) → j < 4 → get_or (a ∷ b ∷ c ∷ d ∷ []) j 0 ≡ get_or (slot 1 1 j (a ∷ b ∷ c ∷ d ∷ [])) 0 0
unfolding slot
one_of_four zero a b c d h = refl
one_of_four (suc zero) a b c d h = refl
one_of_four (suc (suc zero)) a b c d h = refl
one_of_four (suc (suc (suc zero))) a b c d h = refl
one_of_four (suc (suc (suc (suc j)))) a b c d h = absurd (omega arith)

-- the table's slot is the whole table
whole_table : (t : List ℕ) → length t ≡ table_file → slice (table_file * 0) (table_file * 0 + table_file) t ≡ t
whole_table t h = take_all table_file t (omega arith)

module _ (z p p' zt : List ℕ) (s : Scalars) (vl : ℕ) where
  pub pext_done : (size first portions counter pd : ℕ) → Ready (length z) (length p) (length zt) vl (Pext size first portions counter pd) → p' ≡ pext_leaves vl size first portions counter pd p
      → machine z p' zt s ≡ done_of vl (Pext size first portions counter pd) (machine z p zt s)
  unfolding done_of gets puts get put pext_leaves pext_slots
  pext_done size first portions counter pd r e =
      portions_cases (λ f n. pext_ready predicate_file vl size f n counter pd ≡ true → p' ≡ pext_leaves vl size f n counter pd p → machine z p' zt s ≡ done_of vl (Pext size f n counter pd) (machine z p zt s))
      (λ imm2 h y q. rw (q, r.predicates, y)) (λ i1 h y q. rw (q, r.predicates, y))
      first portions (pext_ranges size first portions counter pd r.range).some (pext_ready_lem size first portions counter pd vl r.range r.length) e

  pub psel_done : (size offset index pn pm pd w : ℕ) → Ready (length z) (length p) (length zt) vl (Psel size offset index pn pm pd)
      → w ≡ get_or (s.w12 ∷ s.w13 ∷ s.w14 ∷ s.w15 ∷ []) (index - 12) 0 → p' ≡ psel_leaves vl size w offset pn pm pd p
      → machine z p' zt s ≡ done_of vl (Psel size offset index pn pm pd) (machine z p zt s)
  unfolding done_of gets puts get put psel_leaves
  psel_done size offset index pn pm pd w r q e =
      let g = psel_ranges size offset index pn pm pd r.range in
      let k : index - 12 < 4 = omega (arith, g.index_ge, g.index_lt) in
      rw (e, r.predicates, psel_ready_lem size offset index pn pm pd vl r.range r.length, q, one_of_four (index - 12) s.w12 s.w13 s.w14 s.w15 k)

module _ (z z' p zt : List ℕ) (s : Scalars) (vl : ℕ) where
  -- a B word's leaf may see the old Zd, but takes nothing of it
  pub narrow_done : (op u r t : Bool) (size shift zn zd : ℕ) → Ready (length z) (length p) (length zt) vl (Narrow op u r t size shift zn zd) → z' ≡ narrow_file vl op u r t size shift zn zd z
      → machine z' p zt s ≡ done_of vl (Narrow op u r t size shift zn zd) (machine z p zt s)
  unfolding done_of gets puts get put narrow_file narrow_of element placed
  narrow_done op u r true size shift zn zd g e = rw (e, g.vectors, narrow_ready_lem size shift zn zd vl g.range g.length)
  narrow_done op u r false size shift zn zd g e = rw (e, g.vectors, narrow_ready_lem size shift zn zd vl g.range g.length)

  pub luti4c_done : (size i1 zn zd : ℕ) → Ready (length z) (length p) (length zt) vl (Luti4c size i1 zn zd) → z' ≡ luti4_file vl size i1 zn zd 1 zt z
      → machine z' p zt s ≡ done_of vl (Luti4c size i1 zn zd) (machine z p zt s)
  unfolding done_of gets puts get put luti4_file luti_file slot
  luti4c_done size i1 zn zd r e = rw (e, r.vectors, r.table, luti4c_ready size i1 zn zd vl r.range r.length, add-zero zd, whole_table zt r.table)

  pub luti4s_done : (size i1 zn zd : ℕ) → Ready (length z) (length p) (length zt) vl (Luti4s size i1 zn zd) → z' ≡ luti4_file vl size i1 zn zd 4 zt z
      → machine z' p zt s ≡ done_of vl (Luti4s size i1 zn zd) (machine z p zt s)
  unfolding done_of gets puts get put luti4_file luti_file slot
  luti4s_done size i1 zn zd r e = rw (e, r.vectors, r.table, luti4s_ready size i1 zn zd vl r.range r.length, add-zero zd, whole_table zt r.table)
