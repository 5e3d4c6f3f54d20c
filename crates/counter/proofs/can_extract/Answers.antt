-- `can_extract` meets its contract: its tests are the definition's, with the call's answer for the length.
use Rattle.element.proofs.Units.{is_size_at}
use Rattle.counter.specs.Portion.{extractable}
use Rattle.counter.proofs.can_extract.Goals as goal

pub returns : goal.returns
unfolding extractable
returns c = rw (c.length_allowed.ensures, is_size_at c.args.log)
