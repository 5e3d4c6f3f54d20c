-- `narrow_parts`: after i turns o begins with the elements of the first i chunks.
use mathlib.Core.Path.{◌≡◌}
use mathlib.Core.List.{◌++◌}
use Prim.Native.Nat.{◌*◌}
use lib.ListN.{drop}
use Rattle.element.specs.Contents.{fill}
use Rattle.narrow.proofs.Places.{elements_in}
use Rattle.narrow.proofs.Flags.{flag}
use Rattle.narrow.proofs.elements.narrow_parts.Given as goal

abbrev pub invariant-loop-i : goal.invariant-loop-i
invariant-loop-i g l = l.o ≡ fill (elements_in l.fn.s l.fn.o g.row.W (flag g.row.OP) (flag g.row.U) l.fn.r l.fn.t l.fn.shift) g.row.W (l.i * l.fn.per) ++ drop (l.i * (l.fn.per * g.row.W)) l.fn.o
