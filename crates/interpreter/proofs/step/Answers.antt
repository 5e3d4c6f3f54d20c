-- `step` meets its contract: the run of one word is the step.
use Rattle.machine.proofs.OneWord.{step_of_run}
use Rattle.interpreter.proofs.step.Goals as goal

pub returns : goal.returns
returns c = rw c.moved_on.ensures (step_of_run _ _ _ _ _ _ _ _ _ c.went-progress.ensures)
