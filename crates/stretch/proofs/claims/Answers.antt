-- `claims` meets its contract: the theorems, each proved in Orders, Copies or Permissions.
use Rattle.stretch.proofs.Orders.{orders, before_any_word, whole_done}
use Rattle.stretch.proofs.Copies.{copies, each_writes}
use Rattle.stretch.proofs.Permissions.{permitted_exactly}
use Rattle.stretch.proofs.claims.Goals as goal

pub returns : goal.returns
returns c = record { orders = orders; whole = whole_done; before = before_any_word; copies = copies; each_writes = each_writes; permitted = permitted_exactly }
