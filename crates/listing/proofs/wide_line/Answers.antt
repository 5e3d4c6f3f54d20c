-- `listing::wide_line` meets its contract: the digits and behind them the row of the name, which begins with it.
use mathlib.Core.Path.{◌≡◌, refl, ap}
use mathlib.Core.List.{List, ◌++◌}
use Prim.Native.Nat.{ℕ, ◌+◌, ◌≤◌}
use native.Mathlib.Omega.{arith}
use lib.ListN.{length, drop, length-append, length-drop}
use borrow.Rule.Slice.PartMut.{put_mid}
use Rattle.text.specs.Text.{hex_digits}
use Rattle.text.specs.Name.{name_of}
use Rattle.text.specs.Lines.{name_line, line_of}
use Rattle.listing.specs.Buffer.{Wrote}
use Rattle.listing.specs.Private.{Begins}
use Rattle.listing.proofs.Begins.{wrote_begins, begins_more}
use Rattle.listing.proofs.wide_line.Goals as goal

digits_first : (out : List ℕ) (w : ℕ) {hs : List ℕ} → hs ≡ hex_digits 8 w → Wrote (hex_digits 8 w) out (hs ++ drop 8 out) 8
unfolding hex_digits
digits_first out w e = record { count = refl; whole = rw e }

line_begins : (w : ℕ) (out : List ℕ) {hs ys name : List ℕ} {r : ℕ}
    → length out ≡ 19
    → hs ≡ hex_digits 8 w
    → name ≡ name_of w
    → Begins (name_line name) ys r
    → Begins (line_of w) (put_mid 8 11 (hs ++ drop 8 out) ys) (8 + r)
unfolding hex_digits line_of
line_begins w out {hs} m eh ei v =
    let f : 19 ≤ length (hs ++ drop 8 out) = omega (arith, length-append hs (drop 8 out), length-drop 8 out, ap length eh) in
    rw (← ei) (begins_more {e = 19} (wrote_begins (digits_first out w eh)) v (omega arith) f)

pub returns : goal.returns
returns c =
    let n = c.tail.ensures in
    let b = line_begins c.from_le_bytes-word.result c.args.out.now c.requires c.hex.ensures c.name_index.ensures.0 n.0 in
    (rw c.from_le_bytes-word.ensures at b, omega (arith, n.1))
