-- Document 01's index, (W + offset) mod (VL/size), and what document 02, request 5, has the lab build it from: an adder of 32 bits and a mask.
use Rattle.std.specs.Prelude.{ℕ, ◌+◌, ◌-◌, ◌/◌, ◌%◌, ◌^◌, Bool, ◌&&◌}
use Rattle.setting.specs.Allowed.{length_allowed}
use Rattle.element.specs.Size.{is_size}
use Rattle.index.specs.declared.IndexUnit.{IndexUnit}

-- the number of the chosen element of Pm, sum being W + offset
unfoldable pub index_of : ℕ → ℕ → ℕ → ℕ
index_of vl size sum = sum % (vl / size)

-- the adder's 32 bits of W + offset
unfoldable pub adder_sum : ℕ → ℕ → ℕ
adder_sum w offset = (w + offset) % 2 ^ 32

-- the mask of the bits that number the elements
unfoldable pub index_mask : ℕ → ℕ → ℕ
index_mask vl size = vl / size - 1

-- the three numbers of the index unit
abbrev pub unit_of : ℕ → ℕ → ℕ → ℕ → IndexUnit
unit_of vl size w offset = record { sum = adder_sum w offset; mask = index_mask vl size; index = index_of vl size (w + offset) }

-- there is one for an allowed VL and one of the four sizes
abbrev pub has_unit : ℕ → ℕ → Bool
has_unit vl size = length_allowed vl && is_size size

-- where there is none
abbrev pub no_unit : IndexUnit
no_unit = record { sum = 0; mask = 0; index = 0 }
