-- `mask` meets its contract: there is an element, so that one less is no borrow.
use Rattle.std.proofs.Common.{arith}
use Rattle.index.proofs.Adder.{some_elements}
use Rattle.index.proofs.mask.Goals as goal

pub overflow_sub-result : goal.overflow_sub-result
overflow_sub-result c = omega (arith, some_elements c.args.vl c.args.z c.requires.0 c.requires.1)
