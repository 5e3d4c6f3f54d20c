-- The allowed lengths are powers of two, so a count's bits are those below VL; and the size that a counter says.
use mathlib.Core.Path.{◌≡◌, refl, sym, ap, ap₂, ◌∙◌}
use mathlib.Core.Bool.{Bool, true, ◌||◌}
use Prim.Native.Nat.{ℕ, zero, suc, ◌+◌, ◌-◌, ◌*◌, ◌/◌, ◌%◌, ◌^◌, ◌≤◌, ◌<◌}
use native.Mathlib.Decide.{dec_lt}
use native.Mathlib.Omega.{arith}
use lib.Bits.{bit_and, and_block, and_mask, and_self}
use lib.Count.{count_trailing_zeros}
use lib.Dec.{T, eqb, eqb→eq, lit<, lit≤}
use lib.Pow.{field, mod-mod-pow}
use borrow.Author.Tests.{ne_eqb}
use Rattle.setting.specs.Allowed.{length_allowed}
use Rattle.setting.proofs.Lengths.{length_cases}
use Rattle.element.specs.Size.{size_of, zeros}
use Rattle.element.specs.Private.{Log}
use Rattle.element.proofs.Below.{below}
use Rattle.element.proofs.Sizes.{zeros_lt}
use Rattle.counter.specs.Counter.{top_bit, count_of, inverts}
use Rattle.counter.specs.Private.{Length}

pub length_is : (vl : ℕ) → length_allowed vl ≡ true → Length vl
unfolding top_bit count_trailing_zeros
length_is =
    length_cases Length
    (record { least = lit≤ tt; most = lit≤ tt; even = refl; above = lit< tt; under = lit< tt; power = refl })
    (record { least = lit≤ tt; most = lit≤ tt; even = refl; above = lit< tt; under = lit< tt; power = refl })
    (record { least = lit≤ tt; most = lit≤ tt; even = refl; above = lit< tt; under = lit< tt; power = refl })
    (record { least = lit≤ tt; most = lit≤ tt; even = refl; above = lit< tt; under = lit< tt; power = refl })
    (record { least = lit≤ tt; most = lit≤ tt; even = refl; above = lit< tt; under = lit< tt; power = refl })

pub top_bit_lem : (vl : ℕ) → length_allowed vl ≡ true → 2 ^ top_bit vl ≡ 4 * (vl / 8)
unfolding top_bit count_trailing_zeros
top_bit_lem = length_cases (λ vl. 2 ^ top_bit vl ≡ 4 * (vl / 8)) refl refl refl refl refl

-- what is below a power of two stands under a mask
pub below_vl : (c vl : ℕ) → Length vl → bit_and c (vl - 1) ≡ c % vl
below_vl c vl l = ap (λ (n : ℕ). bit_and c (n - 1)) l.power ∙ and_mask c (top_bit vl + 1) ∙ ap (λ (n : ℕ). c % n) (sym l.power)

-- the lowest 1 of a number's low four bits: tests over them
drops : ℕ → Bool
drops r = eqb r 0 || eqb (bit_and r (r - 1) + 2 ^ zeros r) r

stands : ℕ → Bool
stands r = eqb r 0 || eqb (r % 2 ^ (zeros r + 1)) (2 ^ zeros r)

unless : (r x y : ℕ) → T (eqb r 0 || eqb x y) → (r ≡ 0 → ⊥) → x ≡ y
unless r x y t ne = eqb→eq x y (rw (ne_eqb r 0 ne) at t)

module _ (m : ℕ) (ne : m % 16 ≡ 0 → ⊥) where
  without_lowest : bit_and m (m - 1) ≡ m - 2 ^ zeros m
  unfolding drops count_trailing_zeros
  without_lowest =
      let q = m / 16 in
      let r = m % 16 in
      let low : m % 16 % 16 ≡ m % 16 = omega arith in
      let same : zeros r ≡ zeros m = ap (count_trailing_zeros 32) low in
      let a : m ≡ q * 2 ^ 4 + r = omega arith in
      let b : m - 1 ≡ q * 2 ^ 4 + (r - 1) = omega arith in
      let d = unless r (bit_and r (r - 1) + 2 ^ zeros r) r (below drops 16 tt r (omega arith)) ne in
      let e : bit_and m (m - 1) ≡ q * 2 ^ 4 + bit_and r (r - 1) = ap₂ bit_and a b ∙ and_block 4 q q r (r - 1) (omega arith) (omega arith) ∙ ap (λ (n : ℕ). n * 2 ^ 4 + bit_and r (r - 1)) (and_self q) in
      e ∙ rw (← same) (omega arith)

  lowest_bit : m % 2 ^ (zeros m + 1) ≡ 2 ^ zeros m
  unfolding stands count_trailing_zeros
  lowest_bit =
      let r = m % 16 in
      let low : m % 16 % 16 ≡ m % 16 = omega arith in
      let same : zeros r ≡ zeros m = ap (count_trailing_zeros 32) low in
      let few : zeros m < 4 = zeros_lt (m % 16) (omega arith) ne in
      let k : 4 ≡ 3 - zeros m + (zeros m + 1) = omega arith in
      let in_four : m % 2 ^ (zeros m + 1) ≡ r % 2 ^ (zeros m + 1) = sym (ap (λ (n : ℕ). m % 2 ^ n % 2 ^ (zeros m + 1)) k ∙ mod-mod-pow m (3 - zeros m) (zeros m + 1)) in
      let d = unless r (r % 2 ^ (zeros r + 1)) (2 ^ zeros r) (below stands 16 tt r (omega arith)) ne in
      in_four ∙ ap (λ (n : ℕ). r % 2 ^ (n + 1)) (sym same) ∙ d ∙ ap (λ (n : ℕ). 2 ^ n) same

halved : (z m : ℕ) → z < 4 → m % 2 ^ (z + 1) ≡ 2 ^ z → (m - 2 ^ z) / 2 ≡ m / 2 ^ (z + 1) * 2 ^ z
halved zero m h e = omega arith
halved (suc zero) m h e = omega arith
halved (suc (suc zero)) m h e = omega arith
halved (suc (suc (suc zero))) m h e = omega arith
halved (suc (suc (suc (suc z)))) m h e = absurd (omega arith)

-- the size that a counter says
module _ (c : ℕ) (ne : c % 16 ≡ 0 → ⊥) where
  pub few_zeros : zeros c < 4
  few_zeros = zeros_lt (c % 16) (omega arith) ne

  pub size_said : Log (size_of c) (zeros c)
  unfolding size_of
  size_said = record { small = few_zeros; is = rw (ne_eqb (c % 16) 0 ne) }

  -- bits m down to z + 1 are those below VL from z + 1 on: 2 ^ (m + 1) is VL
  count_is : (vl : ℕ) → Length vl → count_of vl c ≡ c % vl / 2 ^ (zeros c + 1)
  unfolding count_of
  count_is vl l =
      let f = few_zeros in
      let e : top_bit vl - zeros c + (zeros c + 1) ≡ top_bit vl + 1 = omega arith in
      sym (field c (top_bit vl - zeros c) (zeros c + 1)) ∙ ap (λ (n : ℕ). c % n / 2 ^ (zeros c + 1)) (ap (λ (n : ℕ). 2 ^ n) e ∙ sym l.power)

  -- below VL the low four bits are the counter's
  low_four : (vl : ℕ) → Length vl → c % vl % 16 ≡ c % 16
  low_four vl l =
      let e : top_bit vl + 1 ≡ top_bit vl - 3 + 4 = omega arith in
      ap (λ (n : ℕ). c % n % 16) (l.power ∙ ap (λ (n : ℕ). 2 ^ n) e) ∙ mod-mod-pow c (top_bit vl - 3) 4

  pub some_low : (vl : ℕ) → Length vl → 1 ≤ c % vl
  some_low vl l = go (dec_lt 0 (c % vl))
    where
      go : Dec (0 < c % vl) → 1 ≤ c % vl
      go (yes h) = h
      go (no h) = absurd (ne (omega (arith, low_four vl l)))

  -- the count's bits stand one above the lowest 1
  pub edge_is : (vl : ℕ) → Length vl → bit_and (c % vl) (c % vl - 1) / 2 ≡ count_of vl c * 2 ^ zeros c
  edge_is vl l =
      let m = c % vl in
      let f = low_four vl l in
      let z : zeros m ≡ zeros c = ap (count_trailing_zeros 32) f in
      let some : m % 16 ≡ 0 → ⊥ = λ e. ne (sym f ∙ e) in
      ap (λ (n : ℕ). n / 2) (without_lowest m some)
      ∙ halved (zeros m) m (rw z few_zeros) (lowest_bit m some)
      ∙ ap (λ (n : ℕ). m / 2 ^ (n + 1) * 2 ^ n) z
      ∙ ap (λ (n : ℕ). n * 2 ^ zeros c) (sym (count_is vl l))

-- bit 15 is what stands above the others
pub inverts_is : (c : ℕ) → c < 65536 → eqb (c / 32768) 1 ≡ inverts c
inverts_is c h = let e : c / 2 ^ 15 % 2 ≡ c / 32768 = omega arith in rw e
