-- `went` meets its contract: 1, 2 and 8 are tested, and the rest is `checked_run`.
use Rattle.std.proofs.Common.{sym, refl, ◌∙◌}
use Rattle.machine.proofs.Runs.{moved_on_none, run_not_begun, run_begun}
use Rattle.interpreter.proofs.Refused.{refused_number, done_number}
use Rattle.interpreter.proofs.went.Goals as goal

pub returns-then-is_err : goal.returns-then-is_err
returns-then-is_err c = rw (← moved_on_none 0 _ refl) (run_not_begun _ _ _ _ c.before_any-answer.ensures (refused_number _ (sym c.is_err.ensures.value ∙ c.if-is_err.true)))

pub returns : goal.returns
returns c = c.checked_run.ensures ∙ run_begun _ _ _ (sym (done_number _ (sym c.is_err.ensures.value ∙ c.if-is_err.false)) ∙ c.before_any-answer.ensures)
