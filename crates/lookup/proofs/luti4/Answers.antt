-- `luti4` meets its contract: a refused call leaves the file, an accepted one does the work, by any name of the operands.
use Rattle.lookup.proofs.Ready.{worked, untouched}
use Rattle.lookup.proofs.luti4.Goals as goal

pub returns-in_default-clause-z_after : goal.returns-in_default-clause-z_after
returns-in_default-clause-z_after c = untouched _ _ _ _ _ _ _ _ c.in_default.ensures

pub returns-clause-z_after : goal.returns-clause-z_after
returns-clause-z_after c =
    let table = rw c.unwrap.ensures at c.as_array.ensures.cases in
    worked _ _ _ _ _ _ _ _ _ _ c.in-Some.ensures (rw table.same at c.luti4_file.ensures)
