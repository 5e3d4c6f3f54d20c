-- The starred cases: the crates' own lists as proved there, the rest of 10 by computing, joined by a law on lists of facts; and the points beside them.
use mathlib.Core.Path.{refl}
use mathlib.Core.List.{List, [], ◌∷◌, ◌++◌}
use lib.Count.{count_trailing_zeros}
use Rattle.setting.specs.Allowed.{allowed_of}
use Rattle.logic.specs.Every.{Every}
use Rattle.element.specs.Size.{size_of}
use Rattle.element.specs.Contents.{num, bytes, elem, field, fill, gather, octet, packed}
use Rattle.encoding.specs.Decode.{decode_of}
use Rattle.encoding.specs.Points.{reading_points}
use Rattle.encoding.proofs.BoardPoints.{reading_points_lem}
use Rattle.narrowing.specs.Points.{narrow_points}
use Rattle.narrowing.proofs.Board.{starred as narrow-points}
use Rattle.counter.specs.Counter.{top_bit, count_of, element_of, expansion_bit}
use Rattle.counter.specs.Portion.{portion_bit, portion_of}
use Rattle.counter.specs.Points.{counter_points}
use Rattle.counter.proofs.BoardPoints.{counter_points_lem}
use Rattle.pext.specs.Pext.{pext_of}
use Rattle.pext.specs.Points.{pext_points}
use Rattle.pext.proofs.BoardPoints.{pext_points_lem}
use Rattle.index.specs.Index.{index_of}
use Rattle.psel.specs.Psel.{value_of, psel_of}
use Rattle.psel.specs.Points.{psel_points}
use Rattle.psel.proofs.BoardPoints.{psel_points_lem}
use Rattle.machine.specs.Points.{element_points, predicate_words, narrow_touches, starred}

pub narrow_touches_lem : Every narrow_touches
unfolding decode_of allowed_of
narrow_touches_lem = (refl, (refl, (refl, tt)))

every_append : (As Bs : List (Type 0)) → Every As → Every Bs → Every (As ++ Bs)
every_append [] Bs x y = y
every_append (A ∷ As) Bs x y = (x.0, every_append As Bs x.1 y)

element_points_lem : Every element_points
unfolding decode_of allowed_of size_of count_trailing_zeros psel_of value_of index_of packed fill bytes octet gather field
element_points_lem = (refl, (refl, (refl, tt)))

pub predicate_words_lem : Every predicate_words
unfolding decode_of allowed_of pext_of portion_of portion_bit expansion_bit element_of count_of top_bit size_of count_trailing_zeros psel_of value_of index_of packed fill bytes octet gather elem num field
predicate_words_lem = (refl, (refl, (refl, (refl, (refl, (refl, tt))))))

pub starred_points : Every starred
starred_points =
    every_append reading_points (narrow_points ++ (counter_points ++ (pext_points ++ (psel_points ++ element_points)))) reading_points_lem
    (every_append narrow_points (counter_points ++ (pext_points ++ (psel_points ++ element_points))) narrow-points
    (every_append counter_points (pext_points ++ (psel_points ++ element_points)) counter_points_lem
    (every_append pext_points (psel_points ++ element_points) pext_points_lem (every_append psel_points element_points psel_points_lem element_points_lem))))
