-- A portion is a sample of the expansion, bit by bit; and what the tests before an extraction say.
use mathlib.Core.Path.{◌≡◌, refl, sym, ap, ◌∙◌}
use mathlib.Core.Bool.{Bool, true, false, ◌&&◌, and_comm}
use mathlib.Core.Logic.{inl, inr}
use Prim.Native.Nat.{ℕ, ◌+◌, ◌*◌, ◌/◌, ◌%◌, ◌^◌, ◌≤◌, ◌<◌}
use native.Mathlib.Nat.{add-mul, mul_assoc, mul_left_comm, mul-le-mul}
use native.Mathlib.Omega.{arith}
use lib.Dec.{eqb, ltb}
use borrow.Author.Tests.{eqb-true, ltb-true}
use Rattle.setting.specs.Allowed.{length_allowed}
use Rattle.setting.proofs.Lengths.{length_cases}
use Rattle.element.specs.Size.{is_size}
use Rattle.element.specs.Contents.{packed}
use Rattle.element.specs.Units.{size_at}
use Rattle.element.specs.Private.{Log}
use Rattle.element.proofs.Tests.{both_yes}
use Rattle.element.proofs.Units.{unit, whole, back, unit_of_lem, elements, is_size_at}
use Rattle.element.proofs.Filling.{packed_same}
use Rattle.part.specs.Private.{Width}
use Rattle.counter.specs.Counter.{expansion_bit}
use Rattle.counter.specs.Portion.{portion_bit, portion_of, extractable}
use Rattle.counter.specs.Private.{sampled_bit, Length, Filled}
use Rattle.counter.proofs.Lengths.{length_is}

-- where an element's place is asked only at a place, it may be written anew
under : (a : Bool) (f : ℕ → Bool) (x y : ℕ) → (a ≡ true → x ≡ y) → (a && f x) ≡ (a && f y)
under true f x y e = ap f (e refl)
under false f x y e = refl

module _ (vl size p c s : ℕ) (even : vl % 128 ≡ 0) (l : Log size s) where
  -- E elements of the instruction's size, each at index·size/8
  place : (b : ℕ) → b % 2 ^ s ≡ 0 → (p * (vl / size) + b / 2 ^ s) * 2 ^ s ≡ p * (vl / 8) + b
  place b h =
      let u = unit s l.small in
      rw (elements vl l, add-mul, mul_assoc, whole (2 ^ s) (vl / 8) u (omega arith), back (2 ^ s) b u h)

  pub portion_sample : packed (sampled_bit vl c s (p * (vl / 8))) (vl / 64) ≡ portion_of vl size p c
  unfolding portion_of portion_bit sampled_bit
  portion_sample =
      packed_same (sampled_bit vl c s (p * (vl / 8))) (portion_bit vl size p c) (vl / 64)
      (λ b.
      and_comm (expansion_bit vl c (p * (vl / 8) + b)) (eqb (b % 2 ^ s) 0)
      ∙ rw (unit_of_lem l) (sym (under (eqb (b % 2 ^ s) 0) (expansion_bit vl c) ((p * (vl / size) + b / 2 ^ s) * 2 ^ s) (p * (vl / 8) + b) (λ e. place b (eqb-true (b % 2 ^ s) 0 e)))))

-- a register's bytes are two, four or eights
register_filled : (vl : ℕ) → length_allowed vl ≡ true → (vl / 64 < 8 → Width (vl / 64)) × (8 ≤ vl / 64 → vl / 64 % 8 ≡ 0)
register_filled =
    length_cases (λ vl. (vl / 64 < 8 → Width (vl / 64)) × (8 ≤ vl / 64 → vl / 64 % 8 ≡ 0))
    (λ h. inl refl, λ h. absurd (omega arith))
    (λ h. inr (inl refl), λ h. absurd (omega arith))
    (λ h. absurd (omega arith), λ h. refl)
    (λ h. absurd (omega arith), λ h. refl)
    (λ h. absurd (omega arith), λ h. refl)

start_fits : (p vl : ℕ) → p < 4 → vl ≤ 2048 → p * (vl / 8) ≤ 768
start_fits p vl h l =
    let a : p ≤ 3 = omega arith in
    let b : vl / 8 ≤ 256 = omega arith in mul-le-mul a b

start_whole : (p vl : ℕ) → vl % 128 ≡ 0 → p * (vl / 8) % 8 ≡ 0
start_whole p vl even =
    let e : vl / 8 ≡ 8 * (vl / 64) = omega arith in
    let q : p * (vl / 8) ≡ 8 * (p * (vl / 64)) = rw e (mul_left_comm p 8 (vl / 64)) in omega arith

-- what the tests before an extraction say
pub record Extractable (vl log p room : ℕ) : Type 0 where
  pub length : Length vl
  pub small : log < 4
  pub start : p * (vl / 8) % 8 ≡ 0
  pub filled : Filled (p * (vl / 8)) room
  pub whole : room ≡ vl / 64
  pub fits : p * (vl / 8) ≤ 768

pub extractable_is : (vl log p room : ℕ) → extractable vl (size_at log) p room ≡ true → Extractable vl log p room
unfolding extractable
extractable_is vl log p room h =
    let size = is_size (size_at log) in
    let a = both_yes (length_allowed vl && size && ltb p 4) (eqb room (vl / 64)) h in
    let b = both_yes (length_allowed vl && size) (ltb p 4) a.0 in
    let d = both_yes (length_allowed vl) size b.0 in
    let l = length_is vl d.0 in
    let e = eqb-true room (vl / 64) a.1 in
    let f = start_fits p vl (ltb-true p 4 b.1) l.most in
    let w = register_filled vl d.0 in
    record {
      length = l;
      small = ltb-true log 4 (sym (is_size_at log) ∙ d.1);
      start = start_whole p vl l.even;
      filled = rw e (record { few = w.0; many = w.1; fits = omega arith });
      whole = e;
      fits = f;
    }
