-- `narrow` meets its contract: the fields are those that its row reads.
use Rattle.std.proofs.Common.{sym}
use Rattle.machine.proofs.Forms.{narrow_word_lem}
use Rattle.interpreter.proofs.forms.narrow.Goals as goal

pub returns : goal.returns
returns c = let k = c.narrow in narrow_word_lem _ c.args.word _ k.result _ _ _ _ _ _ _ _ _ _ k.ensures.answer (sym c.narrow-o.ensures) k.ensures.file
