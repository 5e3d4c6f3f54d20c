-- `psel` meets its contract: each field is a digit of the word, and the size's log is the number of the size field's trailing zeros.
use Prim.Native.Nat.{◌+◌, ◌*◌, ◌/◌, ◌%◌}
use native.Mathlib.Nat.{div-one}
use Rattle.fields.proofs.Logs.{size_by_log}
use Rattle.fields.proofs.psel.Goals as goal

pub returns : goal.returns
returns c =
    let w = c.args.word in
    let t = w / 0x400000 % 2 * 8 + w / 0x40000 % 8 in
    rw (c.above_lowest-offset.ensures, c.log_of_field-log.ensures, c.psel_tsz.ensures, size_by_log (w / 0x800000 % 2 * 16 + t), div-one w)
