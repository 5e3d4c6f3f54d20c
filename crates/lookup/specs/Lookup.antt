-- Document 01, "LUTI4": each destination takes table entries that the indexes of its part of a segment name.
use Rattle.std.specs.Prelude.{List, ℕ, zero, suc, ◌+◌, ◌*◌, ◌/◌, ◌%◌}
use Rattle.element.specs.Contents.{elem, field, fill}
use Rattle.element.specs.Slots.{slot, set_slot}

-- LUTI4: an index has four bits, and a word four destinations
abbrev pub index_bits : ℕ
index_bits = 4

abbrev pub destinations : ℕ
destinations = 4

-- the segment of Zn that i names: k-bit indexes of d destinations, results of s bits, so s/(k·d) segments (LUTI4, 4 bits and four destinations: s/16)
abbrev pub segment_of : ℕ → ℕ → ℕ → ℕ → ℕ
segment_of k s d i = i % (s / (k * d))

-- where in Zn the index of element e stands: destination r of d, results of s bits
abbrev pub position_of : ℕ → ℕ → ℕ → ℕ → ℕ → ℕ → ℕ
position_of s vl d segment r e = (d * segment + r) * (vl / s) + e

-- the contents of destination r of d: element e is the low s bits of the entry of ZT0 that its k-bit index names
unfoldable pub luti_of : ℕ → ℕ → ℕ → ℕ → ℕ → ℕ → List ℕ → List ℕ → List ℕ
luti_of k s vl d segment r zn zt = fill (λ e. elem 4 (field k (position_of s vl d segment r e) zn) zt) (s / 8) (vl / s)

-- the vector file z after the first r destinations, which are Z(first), Z(first + stride), ..; all read Zn as it was in z
unfoldable pub luti_file : ℕ → ℕ → ℕ → ℕ → ℕ → ℕ → ℕ → ℕ → List ℕ → List ℕ → ℕ → List ℕ
luti_file k s vl d segment zn first stride zt z zero = z
luti_file k s vl d segment zn first stride zt z (suc r) =
    set_slot 256 (vl / 8) (first + stride * r) (luti_of k s vl d segment r (slot 256 (vl / 8) zn z) zt) (luti_file k s vl d segment zn first stride zt z r)
