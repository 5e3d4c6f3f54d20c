-- A line is its eight digits and behind them its name: by the definitions, for a record of four bytes.
use mathlib.Core.Path.{◌≡◌, ap, ◌∙◌}
use mathlib.Core.List.{List, append-nil}
use Prim.Native.Nat.{ℕ, ◌≤◌}
use native.Mathlib.Omega.{arith}
use lib.ListN.{length, get_or, length-append}
use Rattle.text.specs.Text.{hex_digits}
use Rattle.text.specs.Name.{name_of}
use Rattle.text.specs.Lines.{name_line, word_of_bytes, line_of, lines_of}
use Rattle.element.proofs.Spelled.{spelled}

abbrev pub quad_word : List ℕ → ℕ
quad_word q = word_of_bytes (get_or q 0 0) (get_or q 1 0) (get_or q 2 0) (get_or q 3 0)

pub line_text : (q : List ℕ) → length q ≡ 4 → lines_of q ≡ line_of (quad_word q)
unfolding lines_of
line_text q l = ap lines_of (spelled 4 q l) ∙ append-nil (line_of (quad_word q))

pub line_long : (w : ℕ) → 8 ≤ length (line_of w)
unfolding line_of hex_digits
line_long w = omega (arith, length-append (hex_digits 8 w) (name_line (name_of w)))
