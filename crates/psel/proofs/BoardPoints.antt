-- The starred case of PSEL's element and the points beside it: each computes.
use mathlib.Core.Path.{refl}
use Rattle.logic.specs.Every.{Every}
use Rattle.element.specs.Contents.{bytes, field, fill, gather, octet, packed}
use Rattle.index.specs.Index.{index_of}
use Rattle.psel.specs.Psel.{value_of, psel_of}
use Rattle.psel.specs.Points.{psel_points, whole_points}

pub psel_points_lem : Every psel_points
unfolding index_of
psel_points_lem = (refl, tt)

pub whole_points_lem : Every whole_points
unfolding psel_of value_of index_of packed fill bytes octet gather field
whole_points_lem = (refl, (refl, tt))
