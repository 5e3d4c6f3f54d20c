-- `instruction` meets its contract: seven numbers are read in order, and no other list.
use native.Mathlib.Omega.{arith}
use Rattle.numbers.proofs.Cases.{not_seven, of_seven}
use Rattle.numbers.proofs.instruction.Goals as goal

pub returns-in_default : goal.returns-in_default
returns-in_default c = not_seven _ (λ e. omega (arith, e, c.in_default.len_below))

pub returns-in_default-2 : goal.returns-in_default-2
returns-in_default-2 c = not_seven _ (λ e. omega (arith, e, c.in_default.len_at_least))

pub returns : goal.returns
returns c = of_seven c.args.fields.now _ (omega (arith, c.in-len7.len_at_least, c.in-len7.len_below)) c.named.ensures
