-- What the definition of the index unit over C is in each case: the tests that the code has are put into it.
use mathlib.Core.Path.{◌≡◌, ap, ◌∙◌}
use mathlib.Core.Bool.{true, false}
use Prim.Native.Nat.{ℕ}
use lib.Dec.{ltb}
use Rattle.setting.specs.Allowed.{length_allowed}
use Rattle.logic.specs.Pick.{pick}
use Rattle.element.specs.Size.{is_size}
use Rattle.element.specs.Units.{log_of, size_at}
use Rattle.element.proofs.Tests.{both_yes}
use Rattle.element.proofs.Units.{log_is, size_is, size_back}
use Rattle.encoding.specs.Instructions.{is_offset}
use Rattle.index.specs.Index.{unit_of, has_unit, no_unit}
use Rattle.index.specs.declared.IndexUnit.{IndexUnit}
use Rattle.exported.specs.Index.{indexed, indexed_of}

module _ (vl size offset w : ℕ) where
  pub no_length : length_allowed vl ≡ false → indexed 1 no_unit ≡ indexed_of vl size offset w
  unfolding indexed_of
  no_length h = rw h

  module _ (allowed : length_allowed vl ≡ true) where
    pub no_offset : is_offset size offset ≡ false → indexed 9 no_unit ≡ indexed_of vl size offset w
    unfolding indexed_of
    no_offset h = rw (allowed, h)

    pub the_unit : (z : ℕ) (u : IndexUnit) → is_offset size offset ≡ true → z ≡ log_of size → u ≡ pick (has_unit vl (size_at z)) (unit_of vl (size_at z) w offset) no_unit → indexed 0 u ≡ indexed_of vl size offset w
    unfolding indexed_of
    the_unit z u h e f =
        let sized = (both_yes (is_size size) (ltb offset _) h).0 in
        let l = log_is size (size_is size sized) in
        rw (allowed, h) (ap (indexed 0) (f ∙ rw (size_back (log_of size) l.small l.is e, allowed, sized)))
