-- What every instruction's page meets, a clause for each: its needs are refused with 6 at most, and with fields in range it writes something and no scalar, and touches registers that there are.
use mathlib.Core.Path.{◌≡◌, refl}
use mathlib.Core.Bool.{Bool, true, false, ◌&&◌, ◌||◌}
use mathlib.Core.List.{List, [], ◌∷◌}
use Prim.Native.Nat.{ℕ, ◌+◌, ◌-◌, ◌*◌, ◌%◌, ◌<◌}
use native.Mathlib.Omega.{arith}
use lib.Dec.{T, eqb, ltb, leb}
use lib.ListN.{length, get_or}
use borrow.Author.Tests.{leb-true}
use Rattle.setting.specs.Allowed.{has_feature}
use Rattle.setting.specs.declared.Setting.{Setting}
use Rattle.setting.specs.declared.Feature.TheVariants.{Sve2p1}
use Rattle.logic.specs.Pick.{pick}
use Rattle.element.proofs.Tests.{both_yes}
use Rattle.order.specs.Banks.{Register}
use Rattle.order.specs.Touch.{puts}
use Rattle.encoding.specs.Instructions.{in_range}
use Rattle.encoding.specs.declared.Instruction.{Instruction}
use Rattle.encoding.specs.declared.Instruction.TheVariants.{Pext, Psel, Luti4c, Luti4s, Narrow}
use Rattle.encoding.proofs.FieldBits.{strided_zd}
use Rattle.encoding.proofs.InRange.{pext_ranges, portions_cases, psel_ranges, luti_ranges, narrow_ranges}
use Rattle.machine.specs.Machine.{Machine, Z, ZT0, put, Flags}
use Rattle.machine.specs.Needs.{Need, need}
use Rattle.machine.specs.Pext.{pext_writes}
use Rattle.machine.specs.Narrow.{narrow_reads}
use Rattle.machine.specs.Effects.{effect_of}

-- no need has a greater number
abbrev pub at_most_six : List Need → Bool
at_most_six [] = true
at_most_six (n ∷ ns) = leb n.number 6 && at_most_six ns

-- by bank: how many registers it has
abbrev pub room_of : ℕ → ℕ
room_of b = get_or (32 ∷ 16 ∷ 1 ∷ 4 ∷ []) b 0

abbrev pub Known : Register → Type 0
Known r = r.at < room_of r.bank

abbrev pub AllKnown : List Register → Type 0
AllKnown [] = Unit {0}
AllKnown (r ∷ rs) = Known r × AllKnown rs

pub record Fine (i : Instruction) : Type 0 where
  pub refused_small : (s : Setting) (f : Flags) → T (at_most_six ((effect_of i).needs s f))
  pub writes_some : in_range i ≡ true → 0 < length (effect_of i).writes
  pub contents_only : in_range i ≡ true → (vl : ℕ) (cs : List (List ℕ)) (m : Machine) → (puts (put vl) (effect_of i).writes ((effect_of i).gives vl cs) m).scalars ≡ m.scalars
  pub known : in_range i ≡ true → AllKnown (effect_of i).reads × AllKnown (effect_of i).writes

-- V or S, by a feature
by_feature : (b : Bool) (f : Flags) → T (at_most_six (pick b (need 4 f.v) (need 5 f.s) ∷ []))
by_feature true f = tt
by_feature false f = tt

-- LUTI4's source, the table and four destinations a gap apart, of which the last is a register
four_known : (zn a gap : ℕ) → zn < 32 → a + 3 * gap < 32 → Known (Z zn) × Known ZT0 × Known (Z a) × Known (Z (a + gap)) × Known (Z (a + 2 * gap)) × Known (Z (a + 3 * gap))
four_known zn a gap h l = (h, omega arith, omega arith, omega arith, omega arith, l)

-- a narrowing word's sources
narrow_known : (t : Bool) (zn zd : ℕ) → zn < 32 → zd < 32 → AllKnown (narrow_reads t zn zd)
narrow_known true zn zd hn hd = search (hn, hd)
narrow_known false zn zd hn hd = search (hn, hd)

pub fine : (i : Instruction) → Fine i
unfolding puts put
fine (Pext size first portions counter pd) = record {
  refused_small = λ s f. by_feature (has_feature s.features Sve2p1) f;
  writes_some = λ e. portions_cases (λ f n. 0 < length (pext_writes n pd)) (λ imm2 h. omega arith) (λ i1 h. omega arith) first portions (pext_ranges size first portions counter pd e).some;
  contents_only = λ e vl cs m.
      portions_cases (λ f n. (puts (put vl) (pext_writes n pd) ((effect_of (Pext size f n counter pd)).gives vl cs) m).scalars ≡ m.scalars) (λ imm2 h. refl) (λ i1 h. refl)
      first portions (pext_ranges size first portions counter pd e).some;
  known = λ e.
      let g = pext_ranges size first portions counter pd e in
      ((g.counter_lt, tt), portions_cases (λ f n. AllKnown (pext_writes n pd)) (λ imm2 h. (omega arith, tt)) (λ i1 h. (omega arith, (omega arith, tt))) first portions g.some);
}
fine (Psel size offset index pn pm pd) = record {
  refused_small = λ s f. tt;
  writes_some = λ e. omega arith;
  contents_only = λ e vl cs m. refl;
  known = λ e. let g = psel_ranges size offset index pn pm pd e in let w : index - 12 < 4 = omega (arith, g.index_ge, g.index_lt) in search (g.pn_lt, g.pm_lt, w, g.pd_lt);
}
fine (Luti4c size i1 zn zd) = record {
  refused_small = λ s f. tt;
  writes_some = λ e. omega arith;
  contents_only = λ e vl cs m. refl;
  known = λ e.
      let g = luti_ranges (eqb size 16 || eqb size 32) i1 zn (eqb (zd % 4) 0 && leb zd 28) e in
      let most = leb-true zd 28 (both_yes (eqb (zd % 4) 0) (leb zd 28) g.3).1 in
      let k = four_known zn zd 1 g.2 (omega arith) in
      search (k.0, k.1, k.2, k.3, k.4, k.5);
}
fine (Luti4s size i1 zn zd) = record {
  refused_small = λ s f. tt;
  writes_some = λ e. omega arith;
  contents_only = λ e vl cs m. refl;
  known = λ e.
      let g = luti_ranges (eqb size 16) i1 zn (ltb zd 4 || (leb 16 zd && ltb zd 20)) e in
      let d = strided_zd zd g.3 in
      let k = four_known zn zd 4 g.2 (omega arith) in
      search (k.0, k.1, k.2, k.3, k.4, k.5);
}
fine (Narrow op u r t size shift zn zd) = record {
  refused_small = λ s f. tt;
  writes_some = λ e. omega arith;
  contents_only = λ e vl cs m. refl;
  known = λ e. let g = narrow_ranges size shift zn zd e in (narrow_known t zn zd g.2 g.3, (g.3, tt));
}
