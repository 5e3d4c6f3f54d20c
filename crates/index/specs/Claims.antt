-- Document 02, request 5: what `claims` promises of the adder and the mask.
use Rattle.std.specs.Prelude.{◌≡◌, ℕ, ◌+◌, true, bit_and}
use Rattle.setting.specs.Allowed.{length_allowed}
use Rattle.logic.specs.Every.{Every}
use Rattle.element.specs.Size.{is_size}
use Rattle.index.specs.Index.{index_of, adder_sum, index_mask}
use Rattle.index.specs.Points.{adder_points}

-- the bits that the mask keeps of the adder's sum are the index, also where the sum wraps: for all whole numbers W and offset, so for all that a word can have
abbrev pub AdderAgrees : Type 0
AdderAgrees =
    (vl size w offset : ℕ)
    → length_allowed vl ≡ true
    → is_size size ≡ true
    → bit_and (adder_sum w offset) (index_mask vl size) ≡ index_of vl size (w + offset)

pub record Claims : Type 0 where
  pub adder_agrees : AdderAgrees
  pub points : Every adder_points
