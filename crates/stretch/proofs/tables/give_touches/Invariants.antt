-- `give_touches` meets its contract: the words before the turn's are read, and their touches are in the entries.
use Rattle.stretch.specs.Private.{Told}
use Rattle.stretch.proofs.tables.give_touches.Given as goal

abbrev pub invariant-loop-i : goal.invariant-loop-i
invariant-loop-i l = Told l.setting l.words l.i l.entries
