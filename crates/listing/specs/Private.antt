-- What the private functions promise of a buffer: a text at its start, and which text it is.
use Rattle.std.specs.Int.{w32, from_le_bytes}
use Rattle.std.specs.Prelude.{ℕ, ◌+◌, ◌/◌, ◌%◌, ◌≡◌, List, [], ◌∷◌, ◌++◌, map, length, get_or, take, drop}
use Rattle.encoding.specs.Names.{narrow_name}
use Rattle.encoding.specs.Rows.{Row, rows}
use Rattle.encoding.specs.Named.{undefined}
use Rattle.text.specs.Lines.{line_of}

-- a text of r bytes stands at the start of a buffer; nothing is said of the rest
pub record Begins (text after : List ℕ) (r : ℕ) : Type 0 where
  pub count : r ≡ length text
  pub start : take r after ≡ text

-- the same, and all but the six bytes behind the text is as it was: a line is 13 to 19 bytes long
pub record Began (text before after : List ℕ) (r : ℕ) : Type 0 where
  pub begins : Begins text after r
  pub rest : drop (r + 6) after ≡ drop (r + 6) before

-- the name of the narrowing word with the number k as op:U:R:T
abbrev pub narrow_name_of : ℕ → List ℕ
narrow_name_of k = narrow_name (0 ∷ 0 ∷ 0 ∷ (k / 8 % 2) ∷ (k / 4 % 2) ∷ (k / 2 % 2) ∷ (k % 2) ∷ [])

-- the names in the order of the code's table: of the rows whose name hangs on no field, and of the narrowing words; UNDEFINED behind them
abbrev pub names : List (List ℕ)
names = map (λ (r : Row). r.name []) (take 5 rows) ++ map narrow_name_of (0 ∷ 1 ∷ 2 ∷ 3 ∷ 4 ∷ 5 ∷ 6 ∷ 7 ∷ 8 ∷ 9 ∷ 10 ∷ 11 ∷ 12 ∷ 13 ∷ 14 ∷ 15 ∷ [])

abbrev pub name_at : ℕ → List ℕ
name_at k = get_or names k undefined

-- the line of the word that the four bytes are, low byte first
abbrev pub quad_line : List ℕ → List ℕ
quad_line q = line_of (from_le_bytes w32 q)
