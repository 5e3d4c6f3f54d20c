-- Document 01, "The machine" and "Layouts", ranges: which calls are accepted; a refused one answers false and leaves the file.
use Rattle.std.specs.Prelude.{Bool, ◌&&◌, ◌||◌, List, ℕ, ◌+◌, ◌*◌, eqb, ltb, length}
use Rattle.setting.specs.Allowed.{length_allowed}
use Rattle.logic.specs.Pick.{pick}
use Rattle.element.specs.Files.{vector_file, table_file}
use Rattle.lookup.specs.Lookup.{index_bits, destinations, segment_of, luti_file}

-- four destinations, consecutive or strided, that are all registers
abbrev pub four_fit : ℕ → ℕ → Bool
four_fit first stride = (eqb stride 1 || eqb stride 4) && ltb (first + 3 * stride) 32

unfoldable pub luti4_ready : ℕ → ℕ → ℕ → ℕ → ℕ → ℕ → ℕ → ℕ → Bool
luti4_ready z zt vl size i1 zn first stride =
    (eqb z vector_file && eqb zt table_file && length_allowed vl) && ((eqb size 16 || eqb size 32) && ltb i1 2 && ltb zn 32) && four_fit first stride

unfoldable pub luti4_file : ℕ → ℕ → ℕ → ℕ → ℕ → ℕ → List ℕ → List ℕ → List ℕ
luti4_file vl size i1 zn first stride zt z =
    pick (luti4_ready (length z) (length zt) vl size i1 zn first stride) (luti_file index_bits size vl destinations (segment_of index_bits size destinations i1) zn first stride zt z destinations) z
