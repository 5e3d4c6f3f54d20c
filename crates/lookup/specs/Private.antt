-- Document 01, "LUTI4": what the private functions ask of their callers.
use Rattle.std.specs.Prelude.{◌≡◌, ◌⊎◌, List, true, ℕ, suc, ◌*◌, ◌+◌, ◌/◌, ◌%◌, ◌^◌, ◌≤◌, ◌<◌, get_or}
use Rattle.setting.specs.Allowed.{length_allowed}
use Rattle.element.specs.Contents.{elem}
use Rattle.element.specs.Files.{vector_file, table_file}
use Rattle.part.specs.Private.{Lengths}
use Rattle.lookup.specs.Lookup.{index_bits, destinations}
use Rattle.lookup.specs.Calls.{luti4_ready}
use Rattle.lookup.specs.declared.operands.Operands.{Operands}

-- the index widths that the laws of places take, in bits; LUTI4's is 4
abbrev pub Kind : ℕ → Type 0
Kind k = (k ≡ 2) ⊎ (k ≡ 4)

-- an element's bytes, and its bits
abbrev pub ElementBytes : ℕ → Type 0
ElementBytes w = (w ≡ 2) ⊎ (w ≡ 4)

abbrev pub Result : ℕ → Type 0
Result s = (s ≡ 16) ⊎ (s ≡ 32)

-- the table's entries, each cut to below m and raised by it
abbrev pub Raised : ℕ → List ℕ → List ℕ → Type 0
Raised m table high = (i : ℕ) → i < 16 → get_or high i 0 ≡ elem 4 i table % m * m

-- two elements of w bytes for each byte of indexes
pub record PairsReady (source room w : ℕ) (table high : List ℕ) : Type 0 where
  pub raised : Raised (256 ^ w) table high
  pub bytes : ElementBytes w
  pub whole : room ≡ source * (2 * w)

-- fewer bytes of indexes than 64 bytes of elements have, or those of some such
abbrev pub Chunked : ℕ → ℕ → Type 0
Chunked source w = (source < 32 / w) ⊎ (source % (32 / w) ≡ 0)

-- an accepted call: the files' lengths, and the operands as they were passed
pub record Accepted (o : Operands) (z zt vl size i1 zn first stride : ℕ) : Type 0 where
  pub ready : luti4_ready z zt vl size i1 zn first stride ≡ true
  pub slots : z ≡ vector_file
  pub entries : zt ≡ table_file
  pub vl_is : o.vl ≡ vl
  pub size_is : o.size ≡ size
  pub i1_is : o.i1 ≡ i1
  pub zn_is : o.zn ≡ zn
  pub first_is : o.first ≡ first
  pub stride_is : o.stride ≡ stride

-- a segment of Zn for elements of w bytes
pub record SegmentReady (file w segment : ℕ) : Type 0 where
  pub slots : file ≡ vector_file
  pub bytes : ElementBytes w
  pub inside : destinations * suc segment * index_bits ≤ 8 * w

-- d destinations of indexes of k bits; the segment lies in Zn
pub record LutiReady (file vl k s d segment zn first stride : ℕ) : Type 0 where
  pub slots : file ≡ vector_file
  pub allowed : length_allowed vl ≡ true
  pub lengths : Lengths vl
  pub kind : Kind k
  pub result : Result s
  pub inside : d * suc segment * k ≤ s
  pub from : zn < 32
  pub to : first + stride * d < 32 + stride
