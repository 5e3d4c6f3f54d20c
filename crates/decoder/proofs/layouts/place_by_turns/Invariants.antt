-- `place_by_turns`: no row whose turn has passed matches.
use Rattle.decoder.proofs.Search.{turns_of_code, Passed}
use Rattle.decoder.proofs.layouts.place_by_turns.Given as goal

abbrev pub invariant-loop-k : goal.invariant-loop-k
invariant-loop-k l = Passed turns_of_code l.features l.word l.k-index
