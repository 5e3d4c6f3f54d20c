-- `look`'s loop: after q turns o begins with the elements of the first q chunks.
use Rattle.std.proofs.Common.{◌≡◌, ℕ, ◌*◌, ◌/◌, ◌++◌, drop}
use Rattle.element.specs.Contents.{elem, field, fill}
use Rattle.lookup.specs.Lookup.{index_bits}
use Rattle.lookup.proofs.table.look.Given as goal

abbrev pub invariant-loop-q : goal.invariant-loop-q
invariant-loop-q g l = l.o ≡ fill (λ (e : ℕ). elem 4 (field index_bits e l.s) l.zt) g.row.W (l.q * (32 / g.row.W * 2)) ++ drop (l.q * 64) l.fn.o
