-- `claims` meets its contract: the claims, proved in Stored and Placed, and the points, in Board.
use Rattle.narrowing.proofs.Stored.{in_range, held, as_document_01}
use Rattle.narrowing.proofs.Placed.{odd_cleared, even_kept}
use Rattle.narrowing.proofs.Board.{starred, points}
use Rattle.narrowing.proofs.claims.Goals as goal

pub returns : goal.returns
returns c =
    record {
      in_range = in_range;
      held = held;
      as_document_01 = as_document_01;
      odd_cleared = odd_cleared;
      even_kept = even_kept;
      starred = starred;
      points = points;
    }
