-- `give_places` meets its contract: the turn's entry of the order is the one in front of those that are passed.
use Rattle.std.proofs.Common.{◌-◌, arith}
use Rattle.stretch.proofs.Places.{placed_none, placed_passed, placed_stored, placed_all}
use Rattle.stretch.proofs.tables.give_places.Goals as goal

pub loop-k-init : goal.loop-k-init
loop-k-init c = placed_none c.args.order.now c.args.entries.now c.requires

pub loop-k-preserved-then-i-entries : goal.loop-k-preserved-then-i-entries
loop-k-preserved-then-i-entries c =
    let l = c.loop-k in
    placed_stored c.args.order.now c.args.entries.now l.k (l.k - 1) (omega arith) (omega arith) l.entries l.invariant (omega arith) c.if-i-entries.true

pub loop-k-preserved : goal.loop-k-preserved
loop-k-preserved c =
    let l = c.loop-k in
    placed_passed c.args.order.now c.args.entries.now l.k (l.k - 1) (omega arith) (omega arith) l.entries l.invariant (omega arith)

pub returns : goal.returns
returns c = placed_all c.args.order.now c.args.entries.now c.loop-k.entries c.loop-k.k (omega arith) c.loop-k.invariant
