-- `narrow_all`: after i turns o begins with the first i elements.
use mathlib.Core.Path.{◌≡◌}
use mathlib.Core.List.{◌++◌}
use Prim.Native.Nat.{◌*◌}
use lib.ListN.{length, drop}
use Rattle.element.specs.Contents.{fill}
use Rattle.narrow.proofs.Places.{elements_in}
use Rattle.narrow.proofs.Flags.{flag}
use Rattle.narrow.proofs.elements.narrow_all.Given as goal

abbrev pub invariant-loop-i : goal.invariant-loop-i
invariant-loop-i g l =
    (length l.o ≡ length l.fn.o) × (l.o ≡ fill (elements_in l.fn.s l.fn.o g.row.W (flag g.row.OP) (flag g.row.U) l.fn.r l.fn.t l.fn.shift) g.row.W l.i ++ drop (l.i * g.row.W) l.fn.o)
