-- `lister::list_all` is safe: at most three bytes are kept.
use Rattle.std.proofs.Common.{◌≤◌}
use Rattle.lister.proofs.list_all.Given as goal

abbrev pub invariant-loop : goal.invariant-loop
invariant-loop g l = l.kept ≤ 3
