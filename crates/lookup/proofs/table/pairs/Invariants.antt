-- `pairs`'s loop: after q turns o begins with the elements of the first q bytes.
use Rattle.std.proofs.Common.{◌≡◌, ℕ, ◌*◌, ◌++◌, drop}
use Rattle.element.specs.Contents.{elem, field, fill}
use Rattle.lookup.specs.Lookup.{index_bits}
use Rattle.lookup.proofs.table.pairs.Given as goal

abbrev pub invariant-loop-q : goal.invariant-loop-q
invariant-loop-q g l = l.o ≡ fill (λ (e : ℕ). elem 4 (field index_bits e l.s) l.zt) g.row.W (l.q * 2) ++ drop (l.q * (2 * g.row.W)) l.fn.o
