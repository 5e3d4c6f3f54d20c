-- `listing::wide_lines` meets its contract: each turn lists one record more, and covers what the line before left behind its end.
use native.Mathlib.Omega.{arith}
use lib.ListN.{length-take}
use Rattle.listing.proofs.Begins.{begins_within, began_more}
use Rattle.listing.proofs.Quads.{quads_more}
use Rattle.listing.proofs.wide_lines.Goals as goal

pub loop-quad-preserved : goal.loop-quad-preserved
loop-quad-preserved c =
    let r = c.wide_line-at in
    let l = c.loop-quad in
    record {
      room = omega (arith, begins_within r.ensures.0, simp length-take at r.auto.out);
      text = rw (quads_more c.args.quads.now l.quad-index c.loop-quad-test.true) (began_more l.invariant.text r.ensures.0 r.auto.out r.ensures.1 (omega arith));
    }
