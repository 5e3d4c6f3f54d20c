-- Document 01, "Counter": the element size, the count, and the expansion of 4·PL bits, by bit.
use Rattle.std.specs.Prelude.{Bool, true, false, not, ◌&&◌, List, ℕ, ◌+◌, ◌-◌, ◌*◌, ◌/◌, ◌%◌, ◌^◌, eqb, ltb}
use Rattle.std.specs.Int.Count.{count_trailing_zeros}
use Rattle.element.specs.Size.{zeros, size_of}
use Rattle.element.specs.Contents.{packed}

-- m: 2^m is 4·PL, PL being VL/8
unfoldable pub top_bit : ℕ → ℕ
top_bit vl = count_trailing_zeros 32 (4 * (vl / 8))

-- the count is bits m down to z + 1
unfoldable pub count_of : ℕ → ℕ → ℕ
count_of vl c = c / 2 ^ (zeros c + 1) % 2 ^ (top_bit vl - zeros c)

-- bit 15
abbrev pub inverts : ℕ → Bool
inverts c = eqb (c / 2 ^ 15 % 2) 1

abbrev pub flipped : Bool → Bool → Bool
flipped true b = not b
flipped false b = b

-- element e is true when e < count, flipped if inverted
unfoldable pub element_of : ℕ → ℕ → ℕ → Bool
element_of vl c e = flipped (inverts c) (ltb e (count_of vl c))

-- element e has bit e·size/8; all other bits are 0; where the low four bits are 0 all are
unfoldable pub expansion_bit : ℕ → ℕ → ℕ → Bool
expansion_bit vl c b = not (eqb (c % 16) 0) && (eqb (b % (size_of c / 8)) 0 && element_of vl c (b / (size_of c / 8)))

-- the 4·PL bits, which document 01 calls the mask
unfoldable pub expansion_of : ℕ → ℕ → List ℕ
expansion_of vl c = packed (expansion_bit vl c) (vl / 16)
