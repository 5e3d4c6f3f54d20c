-- `conflict` meets its contract: the first refusal, or whether the two touches clash.
use Rattle.std.proofs.lemmas.Result.{err_from_is_err_and}
use Rattle.stretch.proofs.Readings.{first_refused, second_refused, both_read}
use Rattle.stretch.proofs.conflict.Goals as goal

pub returns-in_err-v : goal.returns-in_err-v
returns-in_err-v c =
    let a = c.args in
    let p = err_from_is_err_and c.from_residual.result c.from_residual.ensures.1 in
    rw (p.1, p.2) (first_refused a.setting a.first a.second c.read.ensures c.in_err-v.was)

pub returns-in_err-w : goal.returns-in_err-w
returns-in_err-w c =
    let a = c.args in
    let p = err_from_is_err_and c.from_residual-in_err-w.result c.from_residual-in_err-w.ensures.1 in
    rw (p.1, p.2) (second_refused a.setting a.first a.second c.read.ensures c.in_ok-v.was c.read-2.ensures c.in_err-w.was)

pub returns : goal.returns
returns c =
    let a = c.args in
    both_read a.setting a.first a.second c.read.ensures c.in_ok-v.was c.read-2.ensures c.in_ok-w.was c.clashes.ensures
