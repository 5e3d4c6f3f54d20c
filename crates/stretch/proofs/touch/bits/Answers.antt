-- `bits` meets its contract: the turn's register is the first of those that are left.
use Rattle.std.proofs.Common.{sym, ◌∙◌}
use Rattle.stretch.specs.declared.touch.Register.TheVariants.{Vector}
use Rattle.stretch.proofs.TouchBits.{first_there, bits_more, bits_done}
use Rattle.stretch.proofs.touch.bits.Goals as goal

pub bit-bits-requires : goal.bit-bits-requires
bit-bits-requires c = (first_there _ _ _ c.loop-register-test.true c.loop-register.invariant.0).0

pub loop-register-preserved : goal.loop-register-preserved
loop-register-preserved c =
    let l = c.loop-register in
    let more = bits_more c.args.registers.now l.register-index (Vector 0) c.loop-register-test.true l.bits in
    ((first_there _ _ (Vector 0) c.loop-register-test.true l.invariant.0).1, rw c.bit-bits.ensures (more ∙ l.invariant.1))

pub returns : goal.returns
returns c = sym (bits_done c.args.registers.now c.loop-register.register-index c.loop-register.bits c.loop-register-test.false) ∙ c.loop-register.invariant.1
