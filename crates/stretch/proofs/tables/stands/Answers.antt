-- `stands` meets its contract: a position that fails the code's test fails the definition's.
use Rattle.std.proofs.Common.{arith}
use Rattle.stretch.proofs.Entries.{unlisted, turned}
use Rattle.stretch.proofs.tables.stands.Goals as goal
use Rattle.stretch.proofs.tables.stands.Goals.{then-entry-entries-via-then-entry-entries, then-entry-entries-via-else-entry-entries+then-not-keeps}

pub returns-then-entry-entries : goal.returns-then-entry-entries
returns-then-entry-entries c =
    let j = c.loop-j.j in
    let entries = c.args.entries.now in
    elim c.then-entry-entries.branch [
      | then-entry-entries-via-then-entry-entries w ↦ unlisted entries j c.loop-j-test.true (omega arith)
      | then-entry-entries-via-else-entry-entries+then-not-keeps w ↦ turned entries j c.loop-j-test.true w.keeps.ensures w.if-not-keeps.true
    ]
