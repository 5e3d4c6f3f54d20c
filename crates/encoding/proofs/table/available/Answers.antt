-- `available` meets its contract: a bit in common tells whether one of the features is there.
use Rattle.encoding.proofs.Columns.{feature_bits_tell}
use Rattle.encoding.proofs.table.available.Goals as goal

pub returns : goal.returns
returns c = let a = c.args in feature_bits_tell a.place a.features c.feature_bits.ensures
