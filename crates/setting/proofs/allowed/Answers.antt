-- `allowed` meets its contract: its two tests, as the calls answer.
use Rattle.setting.specs.Allowed.{allowed_of}
use Rattle.setting.proofs.allowed.Goals as goal

pub returns : goal.returns
unfolding allowed_of
returns c = rw (c.features_allowed.ensures, c.length_allowed.ensures)
