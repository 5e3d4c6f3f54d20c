-- `has_unit` meets its contract: the tests are the definition's, the log's for the size.
use Rattle.element.proofs.Units.{is_size_at}
use Rattle.index.proofs.has_unit.Goals as goal

pub returns : goal.returns
returns c = rw (c.length_allowed.ensures, is_size_at c.args.log)
