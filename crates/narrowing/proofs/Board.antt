-- The points: each computes.
use mathlib.Core.Path.{refl}
use Rattle.logic.specs.Every.{Every}
use Rattle.narrowing.specs.Narrowing.{form, signed_of, value, term, shifted, least, greatest, result, low, stored}
use Rattle.narrowing.specs.Registers.{placed, element}
use Rattle.narrowing.specs.Points.{narrow_points, family_points}

pub starred : Every narrow_points
unfolding form signed_of value term shifted least greatest result low stored
starred = (refl, (refl, (refl, (refl, (refl, tt)))))

pub points : Every family_points
unfolding form signed_of value term shifted least greatest result low stored placed element
points = (refl, (refl, (refl, (refl, (refl, (refl, (refl, (refl, (refl, (refl, (refl, (refl, (refl, (refl, (refl, (refl, (refl, (refl, (refl, (refl, (refl, tt)))))))))))))))))))))
