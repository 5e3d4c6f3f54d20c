-- `step_lent` meets its contract: of the scalars a step moves PC alone, so the record with the PC that `step` answers is what the step leaves.
use Rattle.machine.specs.Machine.{machine}
use Rattle.machine.proofs.Moves.{step_pc_alone}
use Rattle.console.proofs.step_lent.Goals as goal

pub returns : goal.returns
returns c =
    let a = c.args in
    step_pc_alone a.setting a.word _ _ _ (machine a.z.now a.p.now a.zt.now a.scalars.now) _ c.step-r.ensures
