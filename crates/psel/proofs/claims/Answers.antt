-- `claims` meets its contract: the starred case and the points beside it, proved in BoardPoints.
use Rattle.psel.proofs.BoardPoints.{psel_points_lem, whole_points_lem}
use Rattle.psel.proofs.claims.Goals as goal

pub returns : goal.returns
returns c = record { starred = psel_points_lem; whole = whole_points_lem }
