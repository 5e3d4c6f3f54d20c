-- `place_of`: before each turn `place` is the place of the first row that matches from k on.
use Rattle.std.proofs.Common.{◌≡◌, ◌+◌, ◌≤◌, length, drop}
use Rattle.encoding.specs.Rows.{rows}
use Rattle.encoding.specs.Places.{place_first}
use Rattle.decoder.proofs.layouts.place_of.Given as goal

abbrev pub invariant-loop-k : goal.invariant-loop-k
invariant-loop-k l = (l.k ≤ length rows) × (l.place ≡ l.k + place_first (drop l.k rows) l.features l.word)
