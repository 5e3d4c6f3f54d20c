-- The adder's points: each computes.
use Rattle.std.proofs.Common.{refl}
use Rattle.logic.specs.Every.{Every}
use Rattle.index.specs.Index.{index_of, adder_sum, index_mask}
use Rattle.index.specs.Points.{adder_points}

pub adder_points_lem : Every adder_points
unfolding index_of adder_sum index_mask
adder_points_lem = (refl, (refl, (refl, (refl, tt))))
