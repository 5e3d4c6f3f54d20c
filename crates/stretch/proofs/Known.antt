-- Each register of the machine has a bit of its own, since the banks' bits lie apart, and a word touches no other register.
use mathlib.Core.Path.{◌≡◌, refl, ap, ap₂}
use mathlib.Core.Bool.{true, ◌&&◌}
use mathlib.Core.List.{[]}
use Prim.Native.Nat.{ℕ, zero, suc, ◌+◌, ◌≤◌, ◌<◌}
use native.Mathlib.Nat.{not-suc-le-zero}
use native.Mathlib.Omega.{arith}
use native.Mathlib.Decide.{ℕ_discrete, dec_lt}
use lib.Dec.{eqb, leb, leb→le}
use borrow.Author.Tests.{eq-eqb, ne_eqb}
use Rattle.setting.specs.declared.Setting.{Setting}
use Rattle.setting.specs.Numbers.{Outcome, accept, refuse}
use Rattle.element.proofs.Below.{below}
use Rattle.logic.specs.Every.{all}
use Rattle.order.specs.Banks.{Register, same_register}
use Rattle.encoding.specs.Decode.{decode_of}
use Rattle.encoding.specs.Instructions.{in_range}
use Rattle.encoding.specs.declared.Instruction.{Instruction}
use Rattle.encoding.proofs.InRange.{known_range}
use Rattle.encoding.proofs.Round.{read_in_range}
use Rattle.machine.specs.Effects.{effect_of}
use Rattle.machine.specs.Step.{reads, writes, over_word}
use Rattle.machine.proofs.Effects.{room_of, Known, AllKnown, fine}
use Rattle.stretch.specs.Private.{start_of}

-- ---- a bit of its own
bank_lt : (b k : ℕ) → k < room_of b → b < 4
bank_lt zero k h = omega arith
bank_lt (suc zero) k h = omega arith
bank_lt (suc (suc zero)) k h = omega arith
bank_lt (suc (suc (suc zero))) k h = omega arith
bank_lt (suc (suc (suc (suc b)))) k h = absurd (not-suc-le-zero h)

-- a bank's bits end before those of a later bank
ends_before : (b c : ℕ) → b < c → c < 4 → start_of b + room_of b ≤ start_of c
ends_before b c h l =
    leb→le (start_of b + room_of b) (start_of c) (below (λ (a : ℕ). leb (start_of a + room_of a) (start_of c)) c (below (λ (d : ℕ). all (λ (a : ℕ). leb (start_of a + room_of a) (start_of d)) d) 4 tt c l) b h)

module _ (b k c l : ℕ) (h : k < room_of b) (m : l < room_of c) where
  same_bank : start_of b + k ≡ start_of c + l → b ≡ c
  same_bank e = go (dec_lt b c) (dec_lt c b)
    where
      go : Dec (b < c) → Dec (c < b) → b ≡ c
      go (yes p) d = absurd (omega (arith, ends_before b c p (bank_lt c l m)))
      go (no p) (yes q) = absurd (omega (arith, ends_before c b q (bank_lt b k h)))
      go (no p) (no q) = omega arith

  own_number : eqb (start_of b + k) (start_of c + l) ≡ (eqb b c && eqb k l)
  own_number = go (ℕ_discrete b c) (ℕ_discrete k l)
    where
      go : Dec (b ≡ c) → Dec (k ≡ l) → eqb (start_of b + k) (start_of c + l) ≡ (eqb b c && eqb k l)
      go (yes e) (yes f) = rw (eq-eqb b c e, eq-eqb k l f) (eq-eqb (start_of b + k) (start_of c + l) (ap₂ (λ (x y : ℕ). start_of x + y) e f))
      go (yes e) (no f) = rw (eq-eqb b c e, ne_eqb k l f) (ne_eqb (start_of b + k) (start_of c + l) (λ q. f (omega (arith, ap start_of e))))
      go (no e) f = rw (ne_eqb b c e) (ne_eqb (start_of b + k) (start_of c + l) (λ q. e (same_bank q)))

pub own_bit : (r s : Register) → Known r → Known s → eqb (start_of r.bank + r.at) (start_of s.bank + s.at) ≡ same_register r s
own_bit r s h k = own_number r.bank r.at s.bank s.at h k

-- ---- what is touched
pub known_word : (s : Setting) (w : ℕ) → AllKnown (reads s w) × AllKnown (writes s w)
known_word s w = go (decode_of s w) refl
  where
    go : (d : Outcome Instruction) → decode_of s w ≡ d → AllKnown (over_word [] (λ i. (effect_of i).reads) d) × AllKnown (over_word [] (λ i. (effect_of i).writes) d)
    go (accept i) e = (fine i).known (read_in_range s i w e)
    go (refuse n) e = (tt, tt)

-- an instruction that is known
pub known_as : {i j : Instruction} → i ≡ j → in_range i ≡ true → AllKnown (effect_of j).reads × AllKnown (effect_of j).writes
known_as {i} {j} e r = (fine j).known (known_range e r)
