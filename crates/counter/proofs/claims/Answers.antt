-- `claims` meets its contract: the theorems, each proved in Lengths or BoardPoints.
use Rattle.counter.proofs.Lengths.{top_bit_lem}
use Rattle.counter.proofs.BoardPoints.{counter_points_lem}
use Rattle.counter.proofs.claims.Goals as goal

pub returns : goal.returns
returns c = record { top_bit = top_bit_lem; points = counter_points_lem }
