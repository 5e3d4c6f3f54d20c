-- `accepted` meets its contract: its tests are the definition's, with the call's answer for the length, and the log's for the size.
use Rattle.std.proofs.Common.{◌≡◌, true, refl}
use Rattle.element.specs.Units.{size_at}
use Rattle.element.proofs.Units.{is_size_at}
use Rattle.pext.specs.Pext.{pext_ready}
use Rattle.pext.proofs.Ready.{file_and_length}
use Rattle.pext.proofs.accepted.Goals as goal

pub returns-then-bytes-length_allowed : goal.returns-then-bytes-length_allowed
unfolding pext_ready
returns-then-bytes-length_allowed c =
    let a = c.args in
    let h : pext_ready a.bytes a.vl (size_at a.log) a.first a.portions a.pn a.pd ≡ true = rw (← c.length_allowed.ensures, is_size_at a.log) c.if-bytes-length_allowed.true in
    let f = file_and_length a.bytes a.vl (size_at a.log) a.first a.portions a.pn a.pd h in
    record { ready = h; file = f.0; allowed = f.1; log_is = refl; first_is = refl; portions_is = refl; pn_is = refl; pd_is = refl }

pub returns-else-bytes-length_allowed : goal.returns-else-bytes-length_allowed
unfolding pext_ready
returns-else-bytes-length_allowed c = rw (← c.length_allowed.ensures, is_size_at c.args.log) c.if-bytes-length_allowed.false
