-- Document 02, request 1: what a narrowing word makes of one element of 2s bits, over whole numbers with a sign.
-- Of the kit: pos n is n, negsuc n is -(n + 1); shr_z z m is z / m rounded down; lt_z is "less"; cond b x y is "if b then x else y".
use Rattle.std.specs.Prelude.{Bool, true, false, cond, ℕ, ◌-◌, ◌*◌, ◌%◌, ◌^◌, ltb, ℤ, pos, negsuc, neg_ℤ, ◌+ℤ◌, ◌-ℤ◌}
use Rattle.std.specs.Int.Signed.{lt_z, shr_z}

-- op:U of the words that saturate
pub data Saturating : Type 0 where
  signed_to_unsigned : Saturating  -- 00: SQSHRUN, SQRSHRUN
  signed_to_signed : Saturating  -- 10: SQSHRN, SQRSHRN
  unsigned_to_unsigned : Saturating  -- 11: UQSHRN, UQRSHRN

-- op:U
pub data Form : Type 0 where
  saturating : Saturating → Form
  low_half : Form  -- 01: SHRN, RSHRN

-- the bits op and U
unfoldable pub form : Bool → Bool → Form
form false false = saturating signed_to_unsigned
form false true = low_half
form true false = saturating signed_to_signed
form true true = saturating unsigned_to_unsigned

-- the number that bits are in two's complement
unfoldable pub signed_of : ℕ → ℕ → ℤ
signed_of bits x = cond (ltb x (2 ^ (bits - 1))) (pos x) (pos x -ℤ pos (2 ^ bits))

-- the value of an element of 2s bits
unfoldable pub value : Form → ℕ → ℕ → ℤ
value (saturating signed_to_unsigned) s x = signed_of (2 * s) x
value (saturating signed_to_signed) s x = signed_of (2 * s) x
value (saturating unsigned_to_unsigned) s x = pos x
value low_half s x = pos x

-- the rounding term, which R adds; the sum is of whole numbers and does not wrap
unfoldable pub term : Bool → ℕ → ℕ
term false shift = 0
term true shift = 2 ^ (shift - 1)

-- rounded, and shifted right towards minus infinity
unfoldable pub shifted : Bool → ℕ → ℤ → ℤ
shifted r shift x = shr_z (x +ℤ pos (term r shift)) (2 ^ shift)

-- the range of a result of s bits
unfoldable pub least : Saturating → ℕ → ℤ
least signed_to_unsigned s = pos 0
least signed_to_signed s = neg_ℤ (pos (2 ^ (s - 1)))
least unsigned_to_unsigned s = pos 0

unfoldable pub greatest : Saturating → ℕ → ℤ
greatest signed_to_unsigned s = pos (2 ^ s - 1)
greatest signed_to_signed s = pos (2 ^ (s - 1) - 1)
greatest unsigned_to_unsigned s = pos (2 ^ s - 1)

-- the number of lo to hi that is nearest q
abbrev pub within : ℤ → ℤ → ℤ → ℤ
within lo hi q = cond (lt_z q lo) lo (cond (lt_z hi q) hi q)

-- what a saturating word makes of the value x
unfoldable pub result : Saturating → Bool → ℕ → ℕ → ℤ → ℤ
result f r s shift x = within (least f s) (greatest f s) (shifted r shift x)

-- the low s bits of a number, in two's complement
unfoldable pub low : ℕ → ℤ → ℕ
low s (pos n) = n % 2 ^ s
low s (negsuc n) = 2 ^ s - 1 - n % 2 ^ s

-- the s bits that are stored for the value x
unfoldable pub stored : Form → Bool → ℕ → ℕ → ℤ → ℕ
stored (saturating f) r s shift x = low s (result f r s shift x)
stored low_half r s shift x = low s (shifted r shift x)
