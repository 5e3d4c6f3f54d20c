-- `part` meets its contract: each test refuses as the definition's does, and the part that is returned is the slot.
use Rattle.std.proofs.Common.{◌/◌}
use Rattle.element.proofs.Tests.{said_no, said_yes}
use Rattle.console.proofs.Asked.{unallowed, too_high, other_length, given_part, has_room}
use Rattle.console.proofs.Bank.part.Goals as goal
use Rattle.console.proofs.Bank.part.Goals.{then-not-length_allowed-via-then-not-length_allowed, then-not-length_allowed-via-else-not-length_allowed+then-register-self, then-not-length_allowed-via-else-not-length_allowed+else-register-self+then-file-self}

pub returns-then-not-length_allowed : goal.returns-then-not-length_allowed
returns-then-not-length_allowed c =
    let b = c.args.self in
    elim c.then-not-length_allowed.branch [
      | then-not-length_allowed-via-then-not-length_allowed w ↦ unallowed b.length b.registers b.gap _ c.args.vl c.args.register c.args.file.now (said_no c.length_allowed.ensures w.if-not-length_allowed.true)
      | then-not-length_allowed-via-else-not-length_allowed+then-register-self w ↦ too_high b.length b.registers b.gap _ c.args.vl c.args.register c.args.file.now w.if-register-self.true
      | then-not-length_allowed-via-else-not-length_allowed+else-register-self+then-file-self w ↦ other_length b.length b.registers b.gap _ c.args.vl c.args.register c.args.file.now w.if-file-self.true
    ]

pub returns : goal.returns
returns c =
    let b = c.args.self in
    let a = said_yes c.length_allowed.ensures c.if-not-length_allowed.false in
    given_part b.length b.registers b.gap (c.args.vl / b.bits) c.args.vl c.args.register c.args.file.now a c.if-register-self.false c.if-file-self.false b.whole
    (has_room c.args.vl b.bits b.gap a b.some b.room)
