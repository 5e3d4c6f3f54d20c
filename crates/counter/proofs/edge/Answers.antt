-- `edge` meets its contract: below VL the counter is the count, then a 1, then zeros.
use Rattle.counter.proofs.Lengths.{below_vl, some_low, edge_is}
use Rattle.counter.proofs.edge.Goals as goal

pub overflow_sub-result : goal.overflow_sub-result
overflow_sub-result c = let a = c.args in rw (below_vl a.bits a.vl c.requires.length) (some_low a.bits c.requires.some a.vl c.requires.length)

pub returns : goal.returns
returns c = let a = c.args in rw (below_vl a.bits a.vl c.requires.length) (edge_is a.bits c.requires.some a.vl c.requires.length)
