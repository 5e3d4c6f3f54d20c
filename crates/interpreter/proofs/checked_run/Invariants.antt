-- `checked_run`: what is left of the stretch, stepped from where the loop stands, ends as the whole does.
use Rattle.interpreter.proofs.Running.{Running}
use Rattle.interpreter.proofs.checked_run.Given as goal

abbrev pub invariant-loop-n : goal.invariant-loop-n
invariant-loop-n l = Running l.fn.z l.fn.p l.zt l.setting l.words l.fn.scalars l.z l.p l.held l.n
