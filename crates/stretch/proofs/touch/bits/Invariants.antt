-- `bits` meets its contract: the bits so far, with those of the registers from the turn's on, are all of them.
use Rattle.std.proofs.Common.{◌≡◌, map, drop}
use Rattle.std.specs.Int.Bits.{bit_or}
use Rattle.stretch.specs.Private.{register_as, AllThere, bits_of}
use Rattle.stretch.proofs.touch.bits.Given as goal

abbrev pub invariant-loop-register : goal.invariant-loop-register
invariant-loop-register l =
    AllThere (drop l.register-index l.registers)
    × (bit_or l.bits (bits_of (map register_as (drop l.register-index l.registers))) ≡ bits_of (map register_as l.registers))
