-- Two copies of a word conflict: a word that writes something was read, and every instruction writes a register.
use mathlib.Core.Path.{◌≡◌, refl, ap}
use mathlib.Core.Bool.{true, false, false≢true}
use mathlib.Core.List.{[]}
use Prim.Native.Nat.{◌<◌}
use native.Mathlib.Omega.{arith}
use lib.ListN.{length}
use borrow.Author.Tests.{eq-eqb}
use Rattle.setting.specs.Numbers.{Outcome, accept, refuse}
use Rattle.encoding.specs.Decode.{decode_of}
use Rattle.encoding.specs.declared.Instruction.{Instruction}
use Rattle.encoding.proofs.Round.{read_in_range}
use Rattle.order.specs.Banks.{Register, same_register}
use Rattle.order.proofs.Touches.{copies_conflict}
use Rattle.machine.specs.Effects.{effect_of}
use Rattle.machine.specs.Step.{over_word}
use Rattle.machine.proofs.Effects.{fine}
use Rattle.stretch.specs.Conflict.{conflict, if_read, conflict_of}
use Rattle.stretch.specs.Claims.{CopiesConflict, EachWrites}

self : (r : Register) → same_register r r ≡ true
self r = rw (eq-eqb r.bank r.bank refl, eq-eqb r.at r.at refl)

pub copies : CopiesConflict
unfolding conflict_of
copies s w h = go (decode_of s w) h
  where
    go : (d : Outcome Instruction) → 0 < length (over_word [] (λ i. (effect_of i).writes) d) → if_read d (if_read d (accept (conflict s w w))) ≡ accept true
    go (accept i) k = ap accept (copies_conflict same_register self _ _ w h)
    go (refuse n) k = absurd (omega arith)

pub each_writes : EachWrites
each_writes s w h = go (decode_of s w) refl h
  where
    go : (d : Outcome Instruction) → decode_of s w ≡ d → over_word false (λ i. true) d ≡ true → 0 < length (over_word [] (λ i. (effect_of i).writes) d)
    go (accept i) e k = (fine i).writes_some (read_in_range s i w e)
    go (refuse n) e k = absurd (false≢true k)
