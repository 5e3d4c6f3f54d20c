-- Document 01, "The lister": what `claims` promises of the lines.
use Rattle.std.specs.Prelude.{ℕ, ◌%◌, ◌≤◌, ◌≡◌, List, ◌++◌, length}
use Rattle.text.specs.Lines.{short_line, lines_of}

-- input may be listed part by part, if the parts are of whole records
abbrev pub LinesAppend : Type 0
LinesAppend = (a b : List ℕ) → length a % 4 ≡ 0 → lines_of (a ++ b) ≡ lines_of a ++ lines_of b

-- one to three bytes give one line, which says how many they are
abbrev pub ShortLines : Type 0
ShortLines = (s : List ℕ) → 1 ≤ length s → length s ≤ 3 → lines_of s ≡ short_line (length s)

pub record Claims : Type 0 where
  pub lines_append : LinesAppend
  pub short_lines : ShortLines
