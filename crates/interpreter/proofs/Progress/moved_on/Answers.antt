-- `moved_on` meets its contract: by no word nothing moves, and n times 4 is added at once.
use Rattle.machine.proofs.Runs.{moved_on_none, moved_on_pc}
use Rattle.interpreter.proofs.Progress.moved_on.Goals as goal

pub returns-then-self-eq0 : goal.returns-then-self-eq0
returns-then-self-eq0 c = moved_on_none _ _ c.if-self-eq0.true

pub returns : goal.returns
returns c = moved_on_pc _ _ c.if-self-eq0.false
