-- `listing::records` meets its contract: all lines but the last leave up to six bytes behind their end, which the last, written exactly, covers.
use Prim.Native.Nat.{◌+◌, ◌-◌, ◌≤◌}
use native.Mathlib.Omega.{arith}
use lib.ListN.{drop}
use Rattle.std.specs.Int.{w32, from_le_bytes}
use Rattle.text.proofs.Parts.{line_long}
use Rattle.listing.proofs.Begins.{began_last}
use Rattle.listing.proofs.Over.{part_fits}
use Rattle.listing.proofs.Quads.{quads_last}
use Rattle.listing.proofs.records.Goals as goal

pub returns : goal.returns
returns c =
    let w = c.wide_lines-at in
    let l = c.line in
    let last = c.in-Some.last.now in
    let parts = c.in-Some.ensures.cases in
    let long : 6 ≤ l.result = omega (arith, line_long (from_le_bytes w32 last), l.ensures.count) in
    let fits : l.result ≤ 19 = omega (arith, part_fits (w.result + 19 - w.result) (drop w.result w.new.out) l.ensures l.auto.out) in (
      rw (parts.0, quads_last c.in-Some.others.now last) (began_last {e = w.result + 19} w.ensures.0 l.ensures l.auto.out long (omega arith) (omega (arith, parts.1))),
      omega (arith, parts.1),
    )
