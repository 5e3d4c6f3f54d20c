-- What `claims` promises of the family: once over the form, R, size, shift and the element.
use Rattle.std.specs.Prelude.{◌≡◌, Bool, true, false, ℕ, ◌+◌, ◌-◌, ◌%◌, ◌/◌, ◌^◌, ◌≤◌, ◌<◌, min, ℤ, pos, ◌≤ℤ◌}
use Rattle.logic.specs.Every.{Every}
use Rattle.narrowing.specs.Narrowing.{Saturating, signed_to_unsigned, signed_to_signed, unsigned_to_unsigned, Form, form, signed_of, term, least, greatest, result, low, stored}
use Rattle.narrowing.specs.Registers.{element}
use Rattle.narrowing.specs.Points.{narrow_points, family_points}

-- the result is a number of the range
abbrev pub InRange : Type 0
InRange = (f : Saturating) (r : Bool) (s shift : ℕ) (x : ℤ) → (least f s ≤ℤ result f r s shift x) × (result f r s shift x ≤ℤ greatest f s)

-- the s bits that are stored, read as the form's results are
abbrev pub read_back : Saturating → ℕ → ℕ → ℤ
read_back signed_to_unsigned s b = pos b
read_back signed_to_signed s b = signed_of s b
read_back unsigned_to_unsigned s b = pos b

-- and they hold it
abbrev pub Held : Type 0
Held = (f : Saturating) (r : Bool) (s shift : ℕ) (x : ℤ) → 1 ≤ s → read_back f s (low s (result f r s shift x)) ≡ result f r s shift x

-- op and U set: document 01's words for an unsigned element, with the rounding term that R adds
abbrev pub AsDocument01 : Type 0
AsDocument01 = (r : Bool) (s shift x : ℕ) → stored (form true true) r s shift (pos x) ≡ min ((x + term r shift) / 2 ^ shift) (2 ^ s - 1)

-- a B word leaves the odd element 0
abbrev pub OddCleared : Type 0
OddCleared = (f : Form) (r : Bool) (s shift x y : ℕ) → element f r false s shift x y < 2 ^ s

-- a T word leaves the even element as it was, and stores in the odd one what its B word stores in the even one
abbrev pub EvenKept : Type 0
EvenKept = (f : Form) (r : Bool) (s shift x y : ℕ) → (element f r true s shift x y % 2 ^ s ≡ y % 2 ^ s) × (element f r true s shift x y / 2 ^ s ≡ element f r false s shift x y)

pub record Claims : Type 0 where
  pub in_range : InRange
  pub held : Held
  pub as_document_01 : AsDocument01
  pub odd_cleared : OddCleared
  pub even_kept : EvenKept
  pub starred : Every narrow_points
  pub points : Every family_points
