-- What `claims` promises of the definitions: a word is undefined exactly when no row matches it, decoding and encoding undo each other wherever neither is refused, PEXT is read by its two layouts and PSEL by its fields and features, and the narrowing words are read and named in the manual's order.
use Rattle.std.specs.Prelude.{◌≡◌, Bool, true, false, List, [], ◌∷◌, ℕ, ◌+◌, ◌≤◌}
use Rattle.setting.specs.Allowed.{allowed_of}
use Rattle.setting.specs.Numbers.{accept, refuse}
use Rattle.setting.specs.declared.Setting.{Setting}
use Rattle.logic.specs.Pick.{pick}
use Rattle.encoding.specs.Layout.{matches}
use Rattle.encoding.specs.Rows.{Row, rows, row_matches}
use Rattle.encoding.specs.Decode.{decode_of}
use Rattle.encoding.specs.Encode.{written, encode_of}
use Rattle.logic.specs.Every.{Every}
use Rattle.encoding.specs.Points.{reading_points, predicate_readings}
use Rattle.encoding.specs.NarrowWords.{NarrowNamed}
use Rattle.encoding.specs.declared.Instruction.{Instruction}

-- no row of the list passes the test
abbrev pub NoRow : (Row → Bool) → List Row → Type 0
NoRow test [] = Unit {0}
NoRow test (r ∷ rs) = (test r ≡ false) × NoRow test rs

-- how many rows of the list pass the test
abbrev pub count_rows : (Row → Bool) → List Row → ℕ
count_rows test [] = 0
count_rows test (r ∷ rs) = pick (test r) 1 0 + count_rows test rs

-- under an allowed setting a word is undefined exactly when no row matches it
abbrev pub UndefinedExactly : Type 0
UndefinedExactly =
    (s : Setting) (w : ℕ) → allowed_of s ≡ true
    → (decode_of s w ≡ refuse 3 → NoRow (λ r. row_matches r s.features w) rows) × (NoRow (λ r. row_matches r s.features w) rows → decode_of s w ≡ refuse 3)

-- no word matches two layouts
abbrev pub OneLayout : Type 0
OneLayout = (w : ℕ) → count_rows (λ r. matches r.layout w) rows ≤ 1

-- a word that an instruction is written as is read as that instruction
abbrev pub DecodeEncode : Type 0
DecodeEncode = (s : Setting) (i : Instruction) (w : ℕ) → encode_of s i ≡ written w → decode_of s w ≡ accept i

-- an instruction that a word is read as is written as that word
abbrev pub EncodeDecode : Type 0
EncodeDecode = (s : Setting) (i : Instruction) (w : ℕ) → decode_of s w ≡ accept i → encode_of s i ≡ written w

pub record Claims : Type 0 where
  pub undefined_exactly : UndefinedExactly
  pub one_layout : OneLayout
  pub decode_encode : DecodeEncode
  pub encode_decode : EncodeDecode
  pub points : Every reading_points
  pub predicate_readings : Every predicate_readings
  pub narrow_named : NarrowNamed
