-- `claims` meets its contract: the theorems, each proved in Append.
use Rattle.text.proofs.Append.{lines_append, short_lines}
use Rattle.text.proofs.claims.Goals as goal

pub returns : goal.returns
returns c = record { lines_append = lines_append; short_lines = short_lines }
