-- `claims` meets its contract: the theorems, each proved in Places.
use Rattle.lookup.proofs.Places.{position_inside, seven_never_comes}
use Rattle.lookup.proofs.claims.Goals as goal

pub returns : goal.returns
returns c = record { position_inside = position_inside; seven_never_comes = seven_never_comes }
