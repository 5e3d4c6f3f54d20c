-- `written` meets its contract: a setting that is not allowed is refused with 1, whether the numbers name an instruction or not.
use Rattle.std.proofs.Common.{◌≡◌, false}
use Rattle.setting.specs.Allowed.{allowed_of}
use Rattle.setting.specs.Numbers.{Outcome, accept, refuse}
use Rattle.setting.specs.declared.Setting.{Setting}
use Rattle.element.proofs.Tests.{said_no}
use Rattle.encoding.specs.Encode.{unwritten, encode_of}
use Rattle.encoding.specs.declared.Instruction.{Instruction}
use Rattle.numbers.specs.Fields.{instruction_of}
use Rattle.exported.specs.Fields.{write_as}
use Rattle.exported.proofs.written.Goals as goal

refused_first : (s : Setting) (o : Outcome Instruction) → allowed_of s ≡ false → unwritten 1 ≡ write_as s o
unfolding encode_of
refused_first s (accept i) h = rw h
refused_first s (refuse n) h = rw h

pub returns-then-not-allowed : goal.returns-then-not-allowed
returns-then-not-allowed c = refused_first c.args.setting (instruction_of c.args.fields.now) (said_no c.allowed.ensures c.if-not-allowed.true)
