-- `from_place` meets its contract: each place below 64 computes, and any other has no bit from it on.
use Rattle.std.proofs.Common.{◌∙◌}
use Rattle.counter.proofs.Words.{from_any}
use Rattle.counter.proofs.from_place.Goals as goal

pub returns : goal.returns
returns c = c.unbounded_shl.ensures ∙ from_any c.args.d
