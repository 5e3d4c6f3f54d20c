-- Document 02, request 1: the bounds of a word's elements, and what the private functions ask of their callers.
use Rattle.std.specs.Prelude.{◌≡◌, Bool, true, false, List, ◌⊎◌, ℕ, ◌+◌, ◌-◌, ◌*◌, ◌/◌, ◌%◌, ◌^◌, ◌≤◌, ◌<◌, min, ℤ, pos, neg_ℤ}
use Rattle.std.specs.Int.Signed.{mag}
use Rattle.narrow.specs.declared.bounds.Bounds.{Bounds}
use Rattle.narrow.specs.declared.bounds.Bounds.TheVariants.{Signed, Unsigned}
use Rattle.part.specs.Private.{Width, Lengths}
use Rattle.element.specs.Contents.{elem, fill}
use Rattle.element.specs.Files.{vector_file}
use Rattle.element.specs.Slots.{slot, set_slot}
use Rattle.narrowing.specs.Narrowing.{form, term, shifted}
use Rattle.narrowing.specs.Registers.{element}

-- Clamping first: a law of proofs/ says that an element clamped to these bounds, rounded and shifted, is the result.
-- A signed element lies from -below to above, in the element's own reading; op set saturates to the signed range.
unfoldable pub below : Bool → Bool → ℕ → ℕ → ℕ
below false r s shift = term r shift
below true r s shift = min (2 ^ (s - 1 + shift) + term r shift) (2 ^ (2 * s - 1))

unfoldable pub above : Bool → Bool → ℕ → ℕ → ℕ
above false r s shift = min (2 ^ (s + shift) - 1 - term r shift) (2 ^ (2 * s - 1) - 1)
above true r s shift = 2 ^ (s - 1 + shift) - 1 - term r shift

-- the greatest unsigned element that is not cut
unfoldable pub top_of : Bool → ℕ → ℕ → ℕ
top_of r s shift = 2 ^ (s + shift) - 1 - term r shift

-- a size and a shift that a word may have
pub record Sized (s shift : ℕ) : Type 0 where
  pub some : 1 ≤ shift
  pub most : shift ≤ s
  pub size : s ≤ 32

pub record SignedBounds (op r : Bool) (s shift : ℕ) (lo hi : ℤ) : Type 0 where
  pub least : lo ≡ neg_ℤ (pos (below op r s shift))
  pub greatest : hi ≡ pos (above op r s shift)

pub record UnsignedBounds (r : Bool) (s shift top h : ℕ) : Type 0 where
  pub greatest : top ≡ top_of r s shift
  pub rounding : h ≡ term r shift

-- bounds, computed, in the word's class
abbrev pub InClass : Bool → Bool → Bool → ℕ → ℕ → Bounds → Type 0
InClass op u r s shift (Signed lo hi) = (u ≡ false) × SignedBounds op r s shift lo hi
InClass op u r s shift (Unsigned top h) = (u ≡ true) × UnsignedBounds r s shift top h

-- a word on elements of w bytes, and its bounds
pub record Prepared (op u r : Bool) (w shift : ℕ) (a : Bounds) : Type 0 where
  pub bytes : Width w
  pub sized : Sized (4 * w) shift
  pub bounds : InClass op u r (4 * w) shift a

-- an element of 2s bits, in each class
pub record LowReady (x s shift : ℕ) : Type 0 where
  pub fit : x < 2 ^ (2 * s)
  pub sized : Sized s shift

pub record SignedReady (x : ℕ) (op r : Bool) (s shift : ℕ) (lo hi : ℤ) : Type 0 where
  pub fit : x < 2 ^ (2 * s)
  pub sized : Sized s shift
  pub bounds : SignedBounds op r s shift lo hi

-- a clamped element: its result is one of s bits
pub record ShiftReady (r : Bool) (s shift : ℕ) (y : ℤ) : Type 0 where
  pub some : 1 ≤ shift
  pub most : shift ≤ s
  pub small : mag (shifted r shift y) < 2 ^ s

pub record UnsignedReady (x : ℕ) (r : Bool) (s shift top h : ℕ) : Type 0 where
  pub fit : x < 2 ^ (2 * s)
  pub sized : Sized s shift
  pub bounds : UnsignedBounds r s shift top h

-- n chunks in the slots of a file, `per` elements of w bytes in each
pub record ChunksReady (file n per w shift zn zd : ℕ) : Type 0 where
  pub slots : file ≡ vector_file
  pub room : n * (per * w) ≤ 256
  pub chunk : per * w ≤ 256
  pub bytes : Width w
  pub low : 1 ≤ shift
  pub high : shift ≤ 4 * w
  pub from : zn < 32
  pub to : zd < 32

-- the numbers of chunks of 16 bytes at the middle lengths, VL 512 and 1024, and at all five
abbrev pub Middle : ℕ → Type 0
Middle n = (n ≡ 4) ⊎ (n ≡ 8)

abbrev pub Chunks : ℕ → Type 0
Chunks n = (n ≡ 1) ⊎ ((n ≡ 2) ⊎ ((n ≡ 16) ⊎ Middle n))

-- element e of Zn's low m bytes, and of Zd's, narrowed
abbrev pub element_of : ℕ → ℕ → Bool → Bool → Bool → Bool → ℕ → ℕ → ℕ → List ℕ → ℕ → ℕ
element_of m w op u r t shift zn zd z e = element (form op u) r t (4 * w) shift (elem w e (slot 256 m zn z)) (elem w e (slot 256 m zd z))

-- the file after its chunks
abbrev pub chunks_of : ℕ → ℕ → ℕ → Bool → Bool → Bool → Bool → ℕ → ℕ → ℕ → List ℕ → List ℕ
chunks_of n per w op u r t shift zn zd z = set_slot 256 (n * (per * w)) zd (fill (element_of (n * (per * w)) w op u r t shift zn zd z) w (n * per)) z

-- a word on the file, but for the size
pub record NarrowReady (file vl s shift zn zd : ℕ) : Type 0 where
  pub slots : file ≡ vector_file
  pub lengths : Lengths vl
  pub length : Chunks (vl / 128 % 32)
  pub low : 1 ≤ shift
  pub high : shift ≤ s
  pub from : zn < 32
  pub to : zd < 32
