-- `claims` meets its contract: each form's numbers are read back, and no retired one is among them, in Cases.
use Rattle.numbers.proofs.Cases.{numbers_read, retired_unused}
use Rattle.numbers.proofs.claims.Goals as goal

pub returns : goal.returns
returns c = record { numbers_read = numbers_read; retired_unused = retired_unused }
