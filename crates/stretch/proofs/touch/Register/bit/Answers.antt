-- `bit` meets its contract: its place is that of the bank's first register, and the number there.
use Rattle.stretch.proofs.TouchBits.{one_bit}
use Rattle.stretch.proofs.touch.Register.bit.Goals as goal
use Rattle.stretch.proofs.touch.Register.bit.Goals.{in-Vector, in-Predicate, in-Table, in-Index}

pub returns : goal.returns
returns c = elim c.match-self.branch [ in-Vector w ↦ one_bit _ _ c.requires (cc) | in-Predicate w ↦ one_bit _ _ c.requires (cc) | in-Table w ↦ one_bit _ _ c.requires (cc) | in-Index w ↦ one_bit _ _ c.requires (cc) ]
