-- The starred cases of the counter: each computes.
use mathlib.Core.Path.{refl}
use lib.Count.{count_trailing_zeros}
use Rattle.logic.specs.Every.{Every}
use Rattle.element.specs.Size.{size_of}
use Rattle.element.specs.Contents.{bytes, fill, gather, octet, packed}
use Rattle.counter.specs.Counter.{top_bit, count_of, element_of, expansion_bit, expansion_of}
use Rattle.counter.specs.Points.{counter_points}

pub counter_points_lem : Every counter_points
unfolding expansion_of expansion_bit element_of count_of top_bit size_of count_trailing_zeros packed fill bytes octet gather
counter_points_lem = (refl, (refl, (refl, (refl, (refl, tt)))))
