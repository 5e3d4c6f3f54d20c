-- The starred cases of PEXT: each computes.
use mathlib.Core.Path.{refl}
use lib.Count.{count_trailing_zeros}
use Rattle.logic.specs.Every.{Every}
use Rattle.element.specs.Size.{size_of}
use Rattle.element.specs.Contents.{num, bytes, elem, fill, gather, octet, packed}
use Rattle.counter.specs.Counter.{top_bit, count_of, element_of, expansion_bit}
use Rattle.counter.specs.Portion.{portion_bit, portion_of}
use Rattle.pext.specs.Pext.{pext_of}
use Rattle.pext.specs.Points.{pext_points}

pub pext_points_lem : Every pext_points
unfolding pext_of portion_of portion_bit expansion_bit element_of count_of top_bit size_of count_trailing_zeros packed fill bytes octet gather elem num
pext_points_lem = (refl, (refl, (refl, (refl, (refl, (refl, tt))))))
