-- Document 01, "The lister": what of the input is listed into a buffer, and what the buffer then holds.
use Rattle.std.specs.Prelude.{ℕ, ◌-◌, ◌*◌, ◌/◌, ◌%◌, min, ◌≡◌, List, ◌++◌, length, take, drop}
use Rattle.listing.specs.declared.Listed.{Listed}
use Rattle.text.specs.Lines.{lines_of}

-- no line is longer than 19 bytes: as many records are read as the buffer has 19s
abbrev pub read_of : List ℕ → List ℕ → ℕ
read_of input out = min (4 * (length out / 19)) (length input)

abbrev pub text_of : List ℕ → List ℕ → List ℕ
text_of input out = lines_of (take (read_of input out) input)

-- the text at the start of a buffer, the rest as it was
abbrev pub over : List ℕ → List ℕ → List ℕ
over text out = text ++ drop (length text) out

-- a text of r bytes was written at the start of a buffer
pub record Wrote (text before after : List ℕ) (r : ℕ) : Type 0 where
  pub count : r ≡ length text
  pub whole : after ≡ over text before

unfoldable pub listed_of : List ℕ → List ℕ → Listed
listed_of input out = record { read = read_of input out; written = length (text_of input out) }

unfoldable pub out_of : List ℕ → List ℕ → List ℕ
out_of input out = over (text_of input out) out

-- the bytes behind the last whole record
abbrev pub left_of : List ℕ → List ℕ
left_of bytes = drop (length bytes - length bytes % 4) bytes

-- and those at the start of their buffer, the rest as it was
unfoldable pub carried_of : List ℕ → List ℕ
carried_of bytes = left_of bytes ++ drop (length bytes % 4) bytes
