-- `has_layout` meets its contract: the fixed bits tell whether the layout matches.
use Prim.Native.Nat.{◌^◌, ◌<◌}
use native.Mathlib.Omega.{arith}
use Rattle.encoding.proofs.Columns.{fixed_bits_tell}
use Rattle.encoding.proofs.table.has_layout.Goals as goal

pub returns-then-place-lt-ROWS : goal.returns-then-place-lt-ROWS
returns-then-place-lt-ROWS c = let l : c.args.word < 2 ^ 32 = omega arith in fixed_bits_tell _ _ c.if-place-lt-ROWS.true l
