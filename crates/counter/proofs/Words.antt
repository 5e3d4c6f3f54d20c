-- Sixty-four bits at once: those from a place on, by tests computed over it, and those below it.
use mathlib.Core.Path.{◌≡◌, refl, sym}
use mathlib.Core.Bool.{Bool, true, false, not}
use Prim.Native.Nat.{ℕ, zero, suc, ◌+◌, ◌-◌, ◌*◌, ◌%◌, ◌^◌, ◌≤◌, ◌<◌}
use native.Mathlib.Nat.{pow-succ'}
use native.Mathlib.Omega.{arith}
use lib.Dec.{eqb, ltb, eqb→eq}
use borrow.Author.Tests.{lt-ltb, le-ltb}
use native.Mathlib.Decide.{dec_lt}
use Rattle.std.specs.Prelude.{nat_lt, if◌then◌else◌}
use Rattle.element.specs.Contents.{digit, gather}
use Rattle.element.proofs.Below.{below}
use Rattle.element.proofs.Filling.{gather_same}

higher : ℕ → Bool
unfolding gather
higher d = eqb ((2 ^ 64 - 1) * 2 ^ d % 2 ^ 64) (gather (λ b. not (ltb b d)) 0 64)

-- the bits from d on
from_near : (d : ℕ) → d < 64 → (2 ^ 64 - 1) * 2 ^ d % 2 ^ 64 ≡ gather (λ b. not (ltb b d)) 0 64
unfolding higher
from_near d h = eqb→eq ((2 ^ 64 - 1) * 2 ^ d % 2 ^ 64) (gather (λ b. not (ltb b d)) 0 64) (below higher 64 tt d h)

-- from 64 on there are none
from_far : (d : ℕ) → 64 ≤ d → 0 ≡ gather (λ b. not (ltb b d)) 0 64
unfolding gather
from_far d h = gather_same (λ (b : ℕ). false) (λ b. not (ltb b d)) 64 0 0 (λ j l. sym (rw (lt-ltb (0 + j) d (omega arith))))

-- so at any place, by a shift that leaves nothing from 64 on
pub from_any : (d : ℕ) → (if nat_lt d 64 then (2 ^ 64 - 1) * 2 ^ d % 2 ^ 64 else 0) ≡ gather (λ b. not (ltb b d)) 0 64
from_any d = go (dec_lt d 64)
  where
    go : Dec (d < 64) → (if nat_lt d 64 then (2 ^ 64 - 1) * 2 ^ d % 2 ^ 64 else 0) ≡ gather (λ b. not (ltb b d)) 0 64
    go (yes h) = rw (lt-ltb d 64 h) (from_near d h)
    go (no h) = let far : 64 ≤ d = omega arith in rw (le-ltb d 64 far) (from_far d far)

digit_not : (b : Bool) → digit (not b) + digit b ≡ 1
digit_not true = refl
digit_not false = refl

-- a number of n digits and that of the others make all ones
others : (g : ℕ → Bool) (n i : ℕ) → gather (λ b. not (g b)) i n + gather g i n + 1 ≡ 2 ^ n
unfolding gather
others g zero i = refl
others g (suc n) i = rw pow-succ' (omega (arith, digit_not (g i), others g n (i + 1)))

pub flipped_bits : (g : ℕ → Bool) → 2 ^ 64 - 1 - gather (λ b. not (g b)) 0 64 ≡ gather g 0 64
flipped_bits g = omega (arith, others g 64 0)
