-- `gighull_run` meets its contract: `run` does, and of the scalars that it leaves all but PC are those that came.
use Rattle.machine.proofs.Moves.{pc_alone}
use Rattle.gighull.proofs.gighull_run.Goals as goal

pub returns : goal.returns
returns c = pc_alone _ _ _ _ _ _ c.run-r.result _ c.number.ensures c.run-r.ensures
