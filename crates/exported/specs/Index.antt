-- PSEL's index unit as numbers: 1 for a VL that is not allowed, then 9 for a size or an offset that PSEL cannot have.
use Rattle.std.specs.Prelude.{ℕ}
use Rattle.setting.specs.Allowed.{length_allowed}
use Rattle.logic.specs.Pick.{pick}
use Rattle.encoding.specs.Instructions.{is_offset}
use Rattle.index.specs.Index.{no_unit, unit_of}
use Rattle.index.specs.declared.IndexUnit.{IndexUnit}

-- a number, and the unit's three: 0 where the number is not
pub record Indexed : Type 0 where
  pub number : ℕ
  pub unit : IndexUnit

abbrev pub indexed : ℕ → IndexUnit → Indexed
indexed n u = record { number = n; unit = u }

unfoldable pub indexed_of : ℕ → ℕ → ℕ → ℕ → Indexed
indexed_of vl size offset w = pick (length_allowed vl) (pick (is_offset size offset) (indexed 0 (unit_of vl size w offset)) (indexed 9 no_unit)) (indexed 1 no_unit)

-- what a call answers and leaves
abbrev pub indexed_as : ℕ → ℕ → ℕ → ℕ → Indexed
indexed_as n s m i = indexed n (record { sum = s; mask = m; index = i })
