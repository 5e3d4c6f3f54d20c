-- The lines of two parts, the first of whole records, are the lines of the whole: by recursion on the first, a record at a time. One to three bytes give SHORT: by their number.
use mathlib.Core.Path.{◌≡◌, refl, sym, ap, ◌∙◌}
use mathlib.Core.List.{List, [], ◌∷◌, ◌++◌, append_assoc}
use Prim.Native.Nat.{ℕ, ◌+◌, ◌-◌, ◌%◌, ◌≤◌}
use native.Mathlib.Omega.{arith}
use lib.ListN.{length, take, drop, length-take}
use lib.Seq.{take-add}
use Rattle.text.specs.Lines.{word_of_bytes, line_of, lines_of}
use Rattle.text.specs.Claims.{LinesAppend, ShortLines}

pub lines_append : LinesAppend
unfolding lines_of
lines_append [] t h = refl
lines_append (a ∷ []) t h = absurd (omega arith)
lines_append (a ∷ b ∷ []) t h = absurd (omega arith)
lines_append (a ∷ b ∷ c ∷ []) t h = absurd (omega arith)
lines_append (a ∷ b ∷ c ∷ d ∷ s) t h =
    ap (λ (l : List ℕ). line_of (word_of_bytes a b c d) ++ l) (lines_append s t (omega arith))
    ∙ sym (append_assoc (line_of (word_of_bytes a b c d)) (lines_of s) (lines_of t))

-- the lines of the first e bytes are those of the first p, whole records, and those of the part from p to e
pub lines_next : (input : List ℕ) (p e : ℕ) → p % 4 ≡ 0 → p ≤ e → e ≤ length input
    → lines_of (take e input) ≡ lines_of (take p input) ++ lines_of (take (e - p) (drop p input))
lines_next input p e h l m =
    let q : e ≡ p + (e - p) = omega arith in
    let z : length (take p input) % 4 ≡ 0 = simp length-take (omega arith) in
    ap (λ (n : ℕ). lines_of (take n input)) q ∙ ap lines_of (take-add p (e - p) input) ∙ lines_append (take p input) (take (e - p) (drop p input)) z

pub short_lines : ShortLines
unfolding lines_of
short_lines [] l m = absurd (omega arith)
short_lines (a ∷ []) l m = refl
short_lines (a ∷ b ∷ []) l m = refl
short_lines (a ∷ b ∷ c ∷ []) l m = refl
short_lines (a ∷ b ∷ c ∷ d ∷ s) l m = absurd (omega arith)
