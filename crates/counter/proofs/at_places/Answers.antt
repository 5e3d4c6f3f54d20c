-- `at_places` meets its contract: of two sizes the larger's places are those of both.
use mathlib.Core.Path.{ap, ◌∙◌}
use lib.Bits.{bit_and}
use Rattle.counter.specs.Private.{every_place}
use Rattle.counter.proofs.Masks.{both_sizes}
use Rattle.counter.proofs.at_places.Goals as goal

pub returns : goal.returns
returns c =
    let m = c.args.m in
    ap (bit_and m.0) (c.places.ensures ∙ ap every_place c.max.ensures) ∙ both_sizes m.0 m.1 c.args.s c.requires.0 c.requires.1
