-- `masked` meets its contract: the bytes before k are Pn's under the pattern, the others as they were.
use Rattle.std.proofs.Common.{ℕ, refl, arith, get_or}
use lib.Bits.{bit_and, and_le_l}
use Rattle.element.specs.Contents.{fill}
use Rattle.element.proofs.Filling.{store}
use Rattle.psel.proofs.selection.masked.Goals as goal

pub loop-k-init : goal.loop-k-init
unfolding fill
loop-k-init c = refl

pub loop-k-preserved : goal.loop-k-preserved
loop-k-preserved c =
    let a = c.args in
    let l = c.loop-k in
    let x = get_or a.s.now l.k 0 in
    let m = get_or a.m.now l.k 0 in
    let h = and_le_l x m in
    store (λ (j : ℕ). bit_and (get_or a.s.now j 0) (get_or a.m.now j 0)) l.k a.o.now l.o (bit_and x m) (omega arith) l.invariant refl (omega (arith, h, c.type_inv.s l.k))
