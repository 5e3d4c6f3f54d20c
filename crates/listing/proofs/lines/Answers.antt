-- `listing::lines` meets its contract: the lines of the whole records, and behind them the line of the bytes left over.
use mathlib.Core.Path.{◌≡◌, sym, ◌∙◌}
use mathlib.Core.List.{List, append-nil}
use Prim.Native.Nat.{ℕ, ◌+◌, ◌/◌, ◌%◌, ◌≤◌}
use native.Mathlib.Omega.{arith}
use borrow.Author.Tests.{eqb-true, eqb-false}
use lib.ListN.{length, take, length-take}
use Rattle.std.proofs.lemmas.List.{nil_from_length}
use Rattle.listing.specs.declared.Listed.{Listed}
use Rattle.text.specs.Lines.{lines_of}
use Rattle.listing.specs.Buffer.{read_of, Wrote, listed_of, out_of}
use Rattle.listing.proofs.Over.{wrote_within, wrote_more}
use Rattle.listing.proofs.Quads.{parts_lines}
use Rattle.listing.proofs.lines.Goals as goal

answer : (input out : List ℕ) {after : List ℕ} {n m : ℕ}
    → n ≡ read_of input out
    → Wrote (lines_of (take n input)) out after m
    → (◌≡◌ {A = Listed} (record { read = n; written = m }) (listed_of input out)) × (after ≡ out_of input out) × (m ≤ length after)
unfolding listed_of out_of
answer input out e w = (rw (w.count, e), rw (w.whole, e), wrote_within w)

pub returns-then-is_empty : goal.returns-then-is_empty
unfolding lines_of
returns-then-is_empty c =
    let a = c.args in
    let f = c.as_chunks.ensures in
    let left = c.as_chunks.result.1.now in
    let none = nil_from_length left (eqb-true (length left) 0 (sym c.is_empty.ensures ∙ c.if-is_empty.true)) in
    answer a.input.now a.out.now c.min-read.ensures (rw (parts_lines (take c.min-read.result a.input.now) f.front f.back, none, append-nil) c.records-at.ensures.0)

pub returns : goal.returns
returns c =
    let a = c.args in
    let f = c.as_chunks.ensures in
    let t = c.short-more in
    let xs = take c.min-read.result a.input.now in
    let whole : length c.as_chunks.result.0.now ≡ length xs / 4 = f.front_len in
    let more : length c.as_chunks.result.1.now ≡ length xs % 4 = f.back_len in
    let some = eqb-false (length c.as_chunks.result.1.now) 0 (sym c.is_empty.ensures ∙ c.if-is_empty.false) in
    let fits : c.records-at.result + 19 ≤ length a.out.now = omega (arith, length-take c.min-read.result a.input.now) in
    answer a.input.now a.out.now c.min-read.ensures
    (rw (parts_lines xs f.front f.back) (wrote_more {e = c.records-at.result + 19} c.records-at.ensures.0 t.ensures t.auto.out (omega arith) fits))
