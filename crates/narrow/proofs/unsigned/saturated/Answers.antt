-- `saturated` meets its contract: the lesser of the element and `top`, rounded, by the laws of Rounding.
use Rattle.narrow.proofs.Rounding.{min_is, sum_fits, saturated_is}
use Rattle.narrow.proofs.unsigned.saturated.Goals as goal

pub add-y-requires : goal.add-y-requires
add-y-requires g c =
    let m = min_is g.L.Lane.value g.L.Ord.cmp g.met.L.Lane.order _ _ _ c.min.ensures in
    g.met.L.Lane.may_add _ _ (sum_fits c.requires c.of.ensures c.of-2.ensures c.of-3.ensures m)

pub returns : goal.returns
returns g c =
    let m = min_is g.L.Lane.value g.L.Ord.cmp g.met.L.Lane.order _ _ _ c.min.ensures in
    saturated_is c.requires c.of.ensures c.of-2.ensures c.of-3.ensures m (g.met.L.Lane.adds _ _ _ c.add-y.ensures) (g.met.L.Lane.shifts _ _ _ c.shr.ensures) c.number.ensures
