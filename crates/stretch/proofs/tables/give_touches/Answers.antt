-- `give_touches` meets its contract: a word that cannot be read is undefined.
use Rattle.std.proofs.Common.{arith, length, get_or}
use Rattle.std.proofs.lemmas.Result.{err_from_is_err_and}
use Rattle.element.proofs.Below.{one_fails}
use Rattle.stretch.specs.Conflict.{is_read}
use Rattle.stretch.proofs.Readings.{is_unread, undefined}
use Rattle.stretch.proofs.Entries.{told_none}
use Rattle.stretch.proofs.tables.give_touches.Goals as goal

pub loop-i-init : goal.loop-i-init
loop-i-init c = told_none c.args.setting c.args.words.now c.args.entries.now c.requires.each

pub returns-in_err-read : goal.returns-in_err-read
returns-in_err-read c =
    let a = c.args in
    let i = c.loop-i.i in
    let w = get_or a.words.now i 0 in
    let p = err_from_is_err_and c.from_residual.result c.from_residual.ensures.1 in
    rw (p.1, p.2) (record {
      number = undefined a.setting w c.read.ensures c.requires.allowed c.in_err-read.was;
      unread = one_fails (λ k. is_read a.setting (get_or a.words.now k 0)) (length a.words.now) i (omega arith) (is_unread a.setting w c.read.ensures c.in_err-read.was);
    })
