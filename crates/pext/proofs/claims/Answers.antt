-- `claims` meets its contract: the starred cases, proved in BoardPoints.
use Rattle.pext.proofs.BoardPoints.{pext_points_lem}
use Rattle.pext.proofs.claims.Goals as goal

pub returns : goal.returns
returns c = pext_points_lem
