-- Document 01, "The machine" and "Layouts", ranges: which calls are accepted; a refused one answers false and leaves the file.
use Rattle.std.specs.Prelude.{Bool, ◌&&◌, List, ℕ, ◌/◌, eqb, leb, ltb, length}
use Rattle.setting.specs.Allowed.{length_allowed}
use Rattle.logic.specs.Pick.{pick}
use Rattle.element.specs.Size.{is_result}
use Rattle.element.specs.Files.{vector_file}
use Rattle.element.specs.Slots.{slot, set_slot}
use Rattle.narrowing.specs.Narrowing.{form}
use Rattle.narrowing.specs.Registers.{narrow_of}

-- what is asked beside the size, which the code tests where each has its loop
abbrev pub rest_ready : ℕ → ℕ → ℕ → ℕ → ℕ → ℕ → Bool
rest_ready z vl size shift zn zd = (eqb z vector_file && length_allowed vl) && (ltb 0 shift && leb shift size) && (ltb zn 32 && ltb zd 32)

unfoldable pub narrow_ready : ℕ → ℕ → ℕ → ℕ → ℕ → ℕ → Bool
narrow_ready z vl size shift zn zd = is_result size && rest_ready z vl size shift zn zd

-- the vector file z after a narrowing word with the bits op, U, R and T
unfoldable pub narrow_file : ℕ → Bool → Bool → Bool → Bool → ℕ → ℕ → ℕ → ℕ → List ℕ → List ℕ
narrow_file vl op u r t size shift zn zd z =
    pick (narrow_ready (length z) vl size shift zn zd)
    (set_slot 256 (vl / 8) zd (narrow_of (form op u) r t size shift vl (slot 256 (vl / 8) zn z) (slot 256 (vl / 8) zd z)) z)
    z
