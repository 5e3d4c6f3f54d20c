-- The adder and the mask give the index: VL/size is a power of two that divides 2 ^ 32, and of such a number the claim is proved once.
use Rattle.std.proofs.Common.{◌≡◌, ℕ, ◌+◌, ◌-◌, ◌/◌, ◌%◌, ◌^◌, ◌<◌, ◌≤◌, true, refl, ap, ◌∙◌, arith, lit≤, pow_pos, pow-add, shr-shr}
use lib.Bits.{bit_and, and_mask}
use lib.Pow.{mod-mod-pow, shl-shr}
use Rattle.setting.specs.Allowed.{length_allowed}
use Rattle.setting.proofs.Lengths.{length_cases}
use Rattle.element.specs.Units.{log_of}
use Rattle.element.proofs.Units.{elements, log_is, size_is}
use Rattle.index.specs.Index.{index_of, adder_sum, index_mask}
use Rattle.index.specs.Claims.{AdderAgrees}

-- a power of two that divides 2 ^ 32
pub record Divides32 (n : ℕ) : Type 0 where
  exponent : ℕ
  most : exponent ≤ 32
  is : n ≡ 2 ^ exponent

-- the claim, of any such number of elements: a carry out of the 32 bits is of whole turns
pub low_bits : (n sum : ℕ) → Divides32 n → bit_and (sum % 2 ^ 32) (n - 1) ≡ sum % n
low_bits n sum p =
    let k = p.exponent in
    let e : 32 ≡ 32 - k + k = omega arith in
    rw p.is (and_mask (sum % 2 ^ 32) k ∙ ap (λ (m : ℕ). sum % 2 ^ m % 2 ^ k) e ∙ mod-mod-pow sum (32 - k) k)

-- an allowed length is 2 ^ 7 times a power of two
record Length (vl : ℕ) : Type 0 where
  exponent : ℕ
  most : exponent ≤ 4
  is : vl ≡ 2 ^ (7 + exponent)

power : (k : ℕ) → k ≤ 4 → Length (2 ^ (7 + k))
power k m = record { exponent = k; most = m; is = refl }

length_of : (vl : ℕ) → length_allowed vl ≡ true → Length vl
length_of = length_cases Length (power 0 (lit≤ tt)) (power 1 (lit≤ tt)) (power 2 (lit≤ tt)) (power 3 (lit≤ tt)) (power 4 (lit≤ tt))

-- the number of elements divides 2 ^ 32
pub elements_divide : (vl z : ℕ) → z < 4 → length_allowed vl ≡ true → Divides32 (vl / 8 / 2 ^ z)
elements_divide vl z small allowed =
    let l = length_of vl allowed in
    let k = 4 + l.exponent - z in
    let e : 7 + l.exponent ≡ k + (3 + z) = omega arith in
    record {
      exponent = k;
      most = omega arith;
      is = shr-shr vl 3 z ∙ ap (λ (n : ℕ). n / 2 ^ (3 + z)) (l.is ∙ ap (λ (n : ℕ). 2 ^ n) e ∙ pow-add 2 k (3 + z)) ∙ shl-shr (2 ^ k) (3 + z);
    }

pub some_elements : (vl z : ℕ) → z < 4 → length_allowed vl ≡ true → 0 < vl / 8 / 2 ^ z
some_elements vl z small allowed = let d = elements_divide vl z small allowed in rw d.is (pow_pos d.exponent)

pub adder_agrees : AdderAgrees
unfolding adder_sum index_mask index_of
adder_agrees vl size w offset allowed sized =
    let l = log_is size (size_is size sized) in
    rw (elements vl l) (low_bits (vl / 8 / 2 ^ log_of size) (w + offset) (elements_divide vl (log_of size) l.small allowed))
