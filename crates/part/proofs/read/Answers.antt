-- `read` meets its contract: the list is its 2, 4 or 8 bytes, spelled out, and a part of another length has the number 0.
use Rattle.std.proofs.Common.{inl, inr, ap, arith}
use Rattle.element.specs.Contents.{num}
use Rattle.element.proofs.Spelled.{spelled}
use Rattle.part.proofs.Widths.{got, got_none}
use Rattle.part.proofs.read.Goals as goal

pub returns-in-2 : goal.returns-in-2
unfolding num
returns-in-2 c =
    let e = c.in-2.is in
    got _ (inl e) (record { is = omega (arith, ap num (spelled 2 c.args.s.now e)); below = rw e (omega arith) })

pub returns-in-4 : goal.returns-in-4
unfolding num
returns-in-4 c =
    let e = c.in-4.is in
    got _ (inr (inl e)) (record { is = omega (arith, ap num (spelled 4 c.args.s.now e)); below = rw e (omega arith) })

pub returns-in-8 : goal.returns-in-8
unfolding num
returns-in-8 c =
    let e = c.in-8.is in
    got _ (inr (inr e)) (record { is = omega (arith, ap num (spelled 8 c.args.s.now e)); below = rw e (omega arith) })

pub returns-in_default : goal.returns-in_default
returns-in_default c = got_none _ (λ e. omega arith) (λ e. omega arith) (λ e. omega arith)
