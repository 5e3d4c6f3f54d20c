-- `step_in_run` meets its contract: in each arm the row is known, and its word leaves what a step does.
use Rattle.std.proofs.Common.{sym, ◌∙◌, arith}
use Rattle.decoder.proofs.Cases.{none_first}
use Rattle.machine.proofs.Forms.{no_row}
use Rattle.interpreter.proofs.step_in_run.Goals as goal

pub returns-in_default : goal.returns-in_default
returns-in_default c = no_row _ _ _ _ (record { checked = c.requires; place = sym (none_first _ _ (sym c.place.ensures ∙ c.in_default.is)) }) (omega arith)
