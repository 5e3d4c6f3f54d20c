-- `claims` meets its contract: the agreement, proved in Adder, and its points, in BoardPoints.
use Rattle.index.proofs.Adder.{adder_agrees}
use Rattle.index.proofs.BoardPoints.{adder_points_lem}
use Rattle.index.proofs.claims.Goals as goal

pub returns : goal.returns
returns c = record { adder_agrees = adder_agrees; points = adder_points_lem }
