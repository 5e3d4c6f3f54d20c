-- `accepted` meets its contract: its tests are the definition's.
use Rattle.std.proofs.Common.{◌≡◌, true, refl}
use Rattle.lookup.specs.Calls.{luti4_ready}
use Rattle.lookup.proofs.Ready.{tested}
use Rattle.lookup.proofs.accepted.Goals as goal

pub invariant_of-result : goal.invariant_of-result
unfolding luti4_ready
invariant_of-result c =
    let a = c.args in
    let h : luti4_ready a.z a.zt a.vl a.size a.i1 a.zn a.first a.stride ≡ true = rw (← c.length_allowed.ensures, ← c.four_fit.ensures) c.if-lengths-fields.true in
    let t = tested a.z a.zt a.vl a.size a.i1 a.zn a.first a.stride h in
    record { allowed = t.allowed; most = t.most; sized = t.sized; half = t.half; from = t.from; to = t.to }

pub returns-then-lengths-fields : goal.returns-then-lengths-fields
unfolding luti4_ready
returns-then-lengths-fields c =
    let a = c.args in
    let h : luti4_ready a.z a.zt a.vl a.size a.i1 a.zn a.first a.stride ≡ true = rw (← c.length_allowed.ensures, ← c.four_fit.ensures) c.if-lengths-fields.true in
    let t = tested a.z a.zt a.vl a.size a.i1 a.zn a.first a.stride h in
    record { ready = h; slots = t.slots; entries = t.entries; vl_is = refl; size_is = refl; i1_is = refl; zn_is = refl; first_is = refl; stride_is = refl }

pub returns-else-lengths-fields : goal.returns-else-lengths-fields
unfolding luti4_ready
returns-else-lengths-fields c = rw (← c.length_allowed.ensures, ← c.four_fit.ensures) c.if-lengths-fields.false
