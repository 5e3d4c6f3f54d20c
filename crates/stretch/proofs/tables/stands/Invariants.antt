-- `stands` meets its contract: every position before the turn's passed the test.
use Rattle.std.proofs.Common.{◌≡◌, true}
use Rattle.logic.specs.Every.{all}
use Rattle.stretch.specs.Private.{stands_at}
use Rattle.stretch.proofs.tables.stands.Given as goal

abbrev pub invariant-loop-j : goal.invariant-loop-j
invariant-loop-j l = all (stands_at l.entries) l.j ≡ true
