-- Document 01, "The lister": a line for each record of four bytes, and one for the bytes left over.
use Rattle.std.specs.Prelude.{ℕ, ◌+◌, ◌*◌, List, [], ◌∷◌, ◌++◌}
use Rattle.text.specs.Text.{hex_digits}
use Rattle.text.specs.Name.{name_of}

-- a space, a name, the end of the line
abbrev pub name_line : List ℕ → List ℕ
name_line name = 32 ∷ name ++ 10 ∷ []

unfoldable pub line_of : ℕ → List ℕ
line_of w = hex_digits 8 w ++ name_line (name_of w)

-- SHORT, a space, the number
abbrev pub short_line : ℕ → List ℕ
short_line n = 83 ∷ 72 ∷ 79 ∷ 82 ∷ 84 ∷ 32 ∷ (48 + n) ∷ 10 ∷ []

-- low byte first
abbrev pub word_of_bytes : ℕ → ℕ → ℕ → ℕ → ℕ
word_of_bytes a b c d = a + 256 * b + 65536 * c + 16777216 * d

unfoldable pub lines_of : List ℕ → List ℕ
lines_of [] = []
lines_of (a ∷ []) = short_line 1
lines_of (a ∷ b ∷ []) = short_line 2
lines_of (a ∷ b ∷ c ∷ []) = short_line 3
lines_of (a ∷ b ∷ c ∷ d ∷ rest) = line_of (word_of_bytes a b c d) ++ lines_of rest
