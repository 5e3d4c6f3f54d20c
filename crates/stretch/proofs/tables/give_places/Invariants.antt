-- `give_places` meets its contract: the entries have their places among the order's entries that the turns have passed.
use Rattle.stretch.proofs.Places.{PlacedFrom}
use Rattle.stretch.proofs.tables.give_places.Given as goal

abbrev pub invariant-loop-k : goal.invariant-loop-k
invariant-loop-k l = PlacedFrom l.k l.order l.initial.entries l.entries
