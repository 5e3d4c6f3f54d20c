-- What the private functions go by and ask of their callers: sixty-four bits of the expansion, and those at the places of a size.
use Rattle.std.specs.Prelude.{◌≡◌, Bool, ◌&&◌, ℕ, ◌+◌, ◌*◌, ◌%◌, ◌^◌, ◌<◌, ◌≤◌, eqb}
use Rattle.std.specs.Int.Bits.{bit_and}
use Rattle.element.specs.Contents.{gather}
use Rattle.part.specs.Private.{Width}
use Rattle.counter.specs.Counter.{top_bit, expansion_bit}

-- sixty-four bits of the expansion, from `from` on: a part of the mask
unfoldable pub mask_of : ℕ → ℕ → ℕ → ℕ
mask_of vl c from = gather (λ b. expansion_bit vl c (from + b)) 0 64

-- sixty-four bits, of which every 2^s-th is 1
abbrev pub every_place : ℕ → ℕ
every_place s = gather (λ b. eqb (b % 2 ^ s) 0) 0 64

-- of a number's bits those
abbrev pub at_places : ℕ → ℕ → ℕ
at_places x s = bit_and x (every_place s)

-- the bits from `from` on, at every 2^s-th place
unfoldable pub sampled_bit : ℕ → ℕ → ℕ → ℕ → ℕ → Bool
sampled_bit vl c s from b = expansion_bit vl c (from + b) && eqb (b % 2 ^ s) 0

-- an allowed length
pub record Length (vl : ℕ) : Type 0 where
  pub least : 128 ≤ vl
  pub most : vl ≤ 2048
  pub even : vl % 128 ≡ 0
  pub above : 5 < top_bit vl
  pub under : top_bit vl < 11
  pub power : vl ≡ 2 ^ (top_bit vl + 1)

-- a counter that says a size
pub record HasSize (vl c : ℕ) : Type 0 where
  pub length : Length vl
  pub some : c % 16 ≡ 0 → ⊥

-- bits that start with a byte, at the places of a size
pub record Sampled (vl s from : ℕ) : Type 0 where
  pub length : Length vl
  pub whole : from % 8 ≡ 0
  pub small : s < 4

-- n bytes that are written at once or by eights, and whose bits have numbers of 32 bits
pub record Filled (from n : ℕ) : Type 0 where
  pub few : n < 8 → Width n
  pub many : 8 ≤ n → n % 8 ≡ 0
  pub fits : from + 8 * n < 2 ^ 32
