-- LUTI4, whose rows are `luti4c` and `luti4s`: four registers of table entries, by the indexes of a segment of Zn.
use Rattle.std.specs.Prelude.{List, [], ◌∷◌, ℕ, ◌+◌}
use Rattle.order.specs.Banks.{Register}
use Rattle.lookup.specs.Lookup.{index_bits, destinations, segment_of, luti_of}
use Rattle.machine.specs.Machine.{Z, ZT0}
use Rattle.machine.specs.Needs.{need}
use Rattle.machine.specs.Effect.{Effect, contents}

-- the r-th destination's contents
abbrev pub luti4_gives : ℕ → ℕ → ℕ → List (List ℕ) → ℕ → List ℕ
luti4_gives vl size i1 cs r = luti_of index_bits size vl destinations (segment_of index_bits size destinations i1) r (contents cs 0) (contents cs 1)

-- the layouts differ in their four destinations alone
abbrev pub luti4_effect : List Register → ℕ → ℕ → ℕ → Effect
luti4_effect to size i1 zn = record {
  needs = λ s f. need 5 f.s ∷ need 6 f.t ∷ [];
  reads = Z zn ∷ ZT0 ∷ [];
  writes = to;
  gives = λ vl cs. luti4_gives vl size i1 cs 0 ∷ luti4_gives vl size i1 cs 1 ∷ luti4_gives vl size i1 cs 2 ∷ luti4_gives vl size i1 cs 3 ∷ [];
}

abbrev pub luti4c_effect : ℕ → ℕ → ℕ → ℕ → Effect
luti4c_effect size i1 zn zd = luti4_effect (Z zd ∷ Z (zd + 1) ∷ Z (zd + 2) ∷ Z (zd + 3) ∷ []) size i1 zn

abbrev pub luti4s_effect : ℕ → ℕ → ℕ → ℕ → Effect
luti4s_effect size i1 zn zd = luti4_effect (Z zd ∷ Z (zd + 4) ∷ Z (zd + 8) ∷ Z (zd + 12) ∷ []) size i1 zn
