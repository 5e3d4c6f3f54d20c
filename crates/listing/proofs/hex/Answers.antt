-- `listing::hex` meets its contract: each turn writes the two digits of one byte, which are the word's at their place.
use mathlib.Core.Path.{◌≡◌, sym, ap, ◌∙◌}
use mathlib.Core.List.{List}
use Prim.Native.Nat.{ℕ, zero, suc, ◌+◌, ◌*◌, ◌/◌, ◌%◌, ◌≤◌, ◌<◌}
use native.Mathlib.Omega.{arith}
use lib.ListN.{length, get_or, take, set}
use lib.Seq.{take_all}
use Rattle.std.specs.Int.{w32, to_be_bytes}
use Rattle.std.proofs.Common.{length-set}
use Rattle.std.proofs.lemmas.List.{take_more, take_more_set}
use Rattle.text.specs.Text.{glyph_of, hex_digits}
use Rattle.listing.proofs.hex.Goals as goal

-- byte i of the word has its digits at 2 * i and behind it
at_byte : (w i : ℕ) → i < 4
    → (glyph_of (get_or (to_be_bytes w32 w) i 0 / 16) ≡ get_or (hex_digits 8 w) (2 * i) 0)
    × (glyph_of (get_or (to_be_bytes w32 w) i 0 % 16) ≡ get_or (hex_digits 8 w) (2 * i + 1) 0)
unfolding hex_digits
at_byte w zero h = (ap glyph_of (omega arith), ap glyph_of (omega arith))
at_byte w (suc zero) h = (ap glyph_of (omega arith), ap glyph_of (omega arith))
at_byte w (suc (suc zero)) h = (ap glyph_of (omega arith), ap glyph_of (omega arith))
at_byte w (suc (suc (suc zero))) h = (ap glyph_of (omega arith), ap glyph_of (omega arith))
at_byte w (suc (suc (suc (suc i)))) h = absurd (omega arith)

two_more : (n : ℕ) (out want : List ℕ) {a b : ℕ}
    → take n out ≡ take n want
    → n + 2 ≤ length out
    → n + 2 ≤ length want
    → a ≡ get_or want n 0
    → b ≡ get_or want (n + 1) 0
    → take (n + 2) (set (set out n a) (n + 1) b) ≡ take (n + 2) want
two_more n out want {a} {b} e h k ea eb =
    let q : n + 2 ≡ n + 1 + 1 = omega arith in
    let long : n + 1 < length (set out n a) = simp length-set (omega arith) in
    rw (q, take_more_set (set out n a) (n + 1) b long, take_more_set out n a (omega arith), take_more want (n + 1) 0 (omega arith), take_more want n 0 (omega arith), e, ea, eb)

pub loop-i-preserved : goal.loop-i-preserved
unfolding hex_digits
loop-i-preserved c =
    let l = c.loop-i in
    let w = c.args.word in
    let g = at_byte w l.i c.loop-i-test.true in
    let e : 2 * (l.i + 1) ≡ 2 * l.i + 2 = omega arith in
    (simp length-set l.invariant.0, rw (e, c.digits.ensures, c.to_be_bytes.ensures) (two_more (2 * l.i) l.out (hex_digits 8 w) l.invariant.1 (omega arith) (omega arith) g.0 g.1))

pub returns : goal.returns
unfolding hex_digits
returns c =
    let l = c.loop-i in
    let e : 2 * l.i ≡ 8 = omega arith in
    sym (take_all 8 l.out (omega arith)) ∙ (rw e at l.invariant.1) ∙ take_all 8 (hex_digits 8 c.args.word) (omega arith)
