-- `read` meets its contract: an instruction that a word is read as has its fields in range.
use Rattle.std.proofs.Common.{sym}
use Rattle.encoding.proofs.Round.{read_in_range}
use Rattle.stretch.proofs.touch.Touch.read.Goals as goal

pub touch_of-requires : goal.touch_of-requires
touch_of-requires c = read_in_range c.args.setting _ c.args.word (sym c.in_ok-decode.ensures)
