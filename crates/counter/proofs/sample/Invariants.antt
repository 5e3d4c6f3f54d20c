-- `sample`'s loop: after k turns the first 8k bytes are the sample's, the others as they were.
use Rattle.std.proofs.Common.{drop, ◌++◌, ◌*◌, ◌≡◌}
use Rattle.element.specs.Contents.{packed}
use Rattle.counter.specs.Private.{sampled_bit}
use Rattle.counter.proofs.sample.Given as goal

abbrev pub invariant-loop-k : goal.invariant-loop-k
invariant-loop-k l = l.o ≡ packed (sampled_bit l.vl l.c.0 l.s l.from) (8 * l.k) ++ drop (8 * l.k) l.initial.o
