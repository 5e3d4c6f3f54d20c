-- `raised`'s loop: after i turns the first i places have their entries raised.
use Rattle.std.proofs.Common.{◌≡◌, ℕ, ◌*◌, ◌%◌, ◌<◌, length, get_or}
use Rattle.element.specs.Contents.{elem}
use Rattle.lookup.proofs.table.raised.Given as goal

abbrev pub invariant-loop-i : goal.invariant-loop-i
invariant-loop-i g l = (length l.t ≡ 16) × ((k : ℕ) → k < l.i → get_or l.t k 0 ≡ elem 4 k l.zt % l.m * l.m)
