-- `narrowed` meets its contract: the element is clamped, rounded and shifted as a whole number, by the laws of Lanes.
use mathlib.Core.Path.{◌∙◌}
use Rattle.narrow.proofs.Lanes.{clamped_is, lo_fits, hi_fits, lo_is, hi_is, shift_ready, signed_is}
use Rattle.narrow.proofs.signed.narrowed.Goals as goal

pub of-requires-2 : goal.of-requires-2
of-requires-2 g c = rw (lo_is c.requires) (lo_fits c.requires)

pub of-requires : goal.of-requires
of-requires g c = rw (hi_is c.requires) (hi_fits c.requires)

pub shifted-requires : goal.shifted-requires
shifted-requires g c =
    let y = clamped_is g.L.Lane.value g.L.Ord.cmp g.met.L.Lane.order _ _ _ _ _ c.min.ensures c.max-y.ensures (c.of-2.ensures ∙ lo_is c.requires) (c.of.ensures ∙ hi_is c.requires) in
    shift_ready c.requires g.L.Lane.width g.met.L.Lane.halves c.read.ensures y

pub returns : goal.returns
returns g c =
    let y = clamped_is g.L.Lane.value g.L.Ord.cmp g.met.L.Lane.order _ _ _ _ _ c.min.ensures c.max-y.ensures (c.of-2.ensures ∙ lo_is c.requires) (c.of.ensures ∙ hi_is c.requires) in
    signed_is c.requires g.L.Lane.width g.met.L.Lane.halves c.read.ensures y g.met.L.Lane.some_bits c.shifted.ensures c.low.ensures
