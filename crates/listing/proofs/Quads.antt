-- The lines of records that stand as arrays of four bytes: one more record, and that they are the lines of the bytes.
use mathlib.Core.Path.{◌≡◌, refl, sym, ap, ◌∙◌}
use mathlib.Core.List.{List, [], ◌∷◌, ◌++◌}
use Prim.Native.Nat.{ℕ, zero, suc, ◌+◌, ◌-◌, ◌*◌, ◌/◌, ◌%◌, ◌≤◌, ◌<◌}
use native.Mathlib.Omega.{arith}
use lib.ListN.{length, get_or, take, drop, length-take, length-drop, take-append-drop}
use Rattle.std.specs.Int.{w32, from_le_bytes}
use Rattle.std.specs.List.{flat_map}
use Rattle.std.specs.Simd.{first_chunks}
use Rattle.std.proofs.lemmas.List.{take_more, flat_map_more}
use Rattle.text.specs.Lines.{line_of, lines_of}
use Rattle.text.proofs.Append.{lines_append, lines_next}
use Rattle.text.proofs.Parts.{quad_word, line_text}
use Rattle.listing.specs.Private.{quad_line}

pub quads_last : (others : List (List ℕ)) (last : List ℕ) → flat_map quad_line (others ++ last ∷ []) ≡ flat_map quad_line others ++ quad_line last
quads_last others last = sym (flat_map_more quad_line [] others last)

pub quads_more : (quads : List (List ℕ)) (i : ℕ) → i < length quads
    → flat_map quad_line (take (i + 1) quads) ≡ flat_map quad_line (take i quads) ++ quad_line (get_or quads i [])
quads_more quads i h = rw (take_more quads i [] h) (quads_last (take i quads) (get_or quads i []))

word_same : (q : List ℕ) → quad_word q ≡ from_le_bytes w32 q
word_same q = omega arith

quad_lines : (q : List ℕ) → length q ≡ 4 → lines_of q ≡ quad_line q
quad_lines q l = line_text q l ∙ ap line_of (word_same q)

-- the lines of the first n chunks are those of their bytes
chunks_lines : (n : ℕ) (xs : List ℕ) → 4 * n ≤ length xs → flat_map quad_line (first_chunks 4 n xs) ≡ lines_of (take (4 * n) xs)
unfolding lines_of
chunks_lines zero xs h = refl
chunks_lines (suc n) xs h =
    let e : 4 * suc n - 4 ≡ 4 * n = omega arith in
    rw (chunks_lines n (drop 4 xs) (simp length-drop (omega arith)), ← quad_lines (take 4 xs) (simp length-take (omega arith)), lines_next xs 4 (4 * suc n) refl (omega arith) h, e)

-- the lines of the whole chunks, and behind them that of the bytes left over
pub parts_lines : (xs : List ℕ) {quads : List (List ℕ)} {left : List ℕ}
    → quads ≡ first_chunks 4 (length xs / 4) xs
    → left ≡ drop (length xs / 4 * 4) xs
    → lines_of xs ≡ flat_map quad_line quads ++ lines_of left
parts_lines xs e f =
    let n = length xs / 4 in
    let q : n * 4 ≡ 4 * n = omega arith in
    let m : length (take (4 * n) xs) % 4 ≡ 0 = simp length-take (omega arith) in
    ap lines_of (sym (take-append-drop (4 * n) xs)) ∙ lines_append (take (4 * n) xs) (drop (4 * n) xs) m ∙ rw (e, f, q, chunks_lines n xs (omega arith))
