-- `shifted` meets its contract: the sum fits the type, by the laws of Lanes.
use Rattle.narrow.proofs.Lanes.{sum_fits}
use Rattle.narrow.proofs.signed.shifted.Goals as goal

pub add-requires : goal.add-requires
add-requires g c = let m = g.met.L.Lane in m.may_add _ _ (sum_fits c.requires c.if-r.true (m.shifts _ _ _ c.shr.ensures) c.of.ensures m.some_bits)
