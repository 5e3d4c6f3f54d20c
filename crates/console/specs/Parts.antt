-- Document 01, "A console may ask for a register's bytes": a part of the lent file, empty on refusal.
use Rattle.std.specs.Prelude.{◌&&◌, List, [], ℕ, ◌/◌, eqb, ltb, length}
use Rattle.setting.specs.Allowed.{length_allowed}
use Rattle.logic.specs.Pick.{pick}
use Rattle.element.specs.Files.{vector_file, predicate_file}
use Rattle.element.specs.Slots.{slot}

-- n bytes from the start of slot k, of a file of so many bytes and slots; empty for a register number too high, a bad VL or a file of wrong length
unfoldable pub part_of : ℕ → ℕ → ℕ → ℕ → ℕ → ℕ → List ℕ → List ℕ
part_of whole slots size n vl k file = pick (length_allowed vl && ltb k slots && eqb (length file) whole) (slot size n k file) []

-- VL/8 bytes of the vector file
abbrev pub vector_of : List ℕ → ℕ → ℕ → List ℕ
vector_of file vl k = part_of vector_file 32 256 (vl / 8) vl k file

-- PL/8 bytes of the predicate file: PL is VL/8
abbrev pub predicate_of : List ℕ → ℕ → ℕ → List ℕ
predicate_of file vl k = part_of predicate_file 16 32 (vl / 64) vl k file
