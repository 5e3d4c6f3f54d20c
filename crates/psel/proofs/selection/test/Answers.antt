-- `test` meets its contract: a bit is read without its width.
use mathlib.Core.Path.{sym}
use Rattle.element.proofs.Digits.{bit_is}
use Rattle.psel.proofs.selection.test.Goals as goal

pub returns : goal.returns
returns c = sym (bit_is c.args.i c.args.s.now)
