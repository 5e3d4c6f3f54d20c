-- `pext` meets its contract: the fields are those that its row reads.
use Rattle.std.proofs.Common.{sym}
use Rattle.machine.proofs.Forms.{pext_word}
use Rattle.interpreter.proofs.forms.pext.Goals as goal

pub returns : goal.returns
returns c = let k = c.pext in pext_word _ c.args.word _ k.result _ _ _ _ _ _ _ _ k.ensures.answer (sym c.pext-o.ensures) k.ensures.file
