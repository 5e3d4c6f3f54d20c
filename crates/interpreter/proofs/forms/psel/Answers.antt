-- `psel` meets its contract: the fields are those that its row reads, so the index register is one of four.
use Rattle.std.proofs.Common.{sym}
use Rattle.machine.proofs.Forms.{psel_word}
use Rattle.interpreter.proofs.forms.psel.Goals as goal

pub returns : goal.returns
returns c = let k = c.psel in psel_word _ c.args.word _ k.result _ _ _ _ _ _ _ _ _ k.ensures.answer (sym c.psel-o.ensures) c.index_register-w.ensures k.ensures.file
