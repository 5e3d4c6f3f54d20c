-- `luti4` meets its contract: the fields are those that its row reads.
use Rattle.std.proofs.Common.{sym}
use Rattle.machine.proofs.Forms.{luti4_word}
use Rattle.interpreter.proofs.forms.luti4.Goals as goal

pub returns : goal.returns
returns g c = let k = c.luti4 in luti4_word _ c.args.word _ k.result _ _ _ _ _ _ _ _ _ k.ensures.answer c.luti4-o.ensures.stride (sym c.luti4-o.ensures.row) k.ensures.file
