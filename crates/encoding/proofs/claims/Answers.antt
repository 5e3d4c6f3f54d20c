-- `claims` meets its contract: the theorems, each proved in Round or BoardPoints.
use Rattle.encoding.proofs.Round.{undefined_exactly, one_layout, decode_encode, encode_decode}
use Rattle.encoding.proofs.BoardPoints.{reading_points_lem, predicate_readings_lem, narrow_named}
use Rattle.encoding.proofs.claims.Goals as goal

pub returns : goal.returns
returns c = record { undefined_exactly = undefined_exactly; one_layout = one_layout; decode_encode = decode_encode; encode_decode = encode_decode; points = reading_points_lem; predicate_readings = predicate_readings_lem; narrow_named = narrow_named }
