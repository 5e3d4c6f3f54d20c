-- `masked`'s loop: the bytes before k are Pn's under the pattern, the others as they were.
use Rattle.std.proofs.Common.{◌≡◌, ◌++◌, drop, get_or}
use Rattle.std.specs.Int.Bits.{bit_and}
use Rattle.element.specs.Contents.{fill}
use Rattle.psel.proofs.selection.masked.Given as goal

abbrev pub invariant-loop-k : goal.invariant-loop-k
invariant-loop-k l = l.o ≡ fill (λ j. bit_and (get_or l.s j 0) (get_or l.m j 0)) 1 l.k ++ drop l.k l.fn.o
