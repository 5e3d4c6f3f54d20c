-- Document 02, request 3, "Answer 7 never comes": what `claims` promises of the definitions.
use Rattle.std.specs.Prelude.{◌≡◌, ◌⊎◌, ℕ, ◌*◌, ◌/◌, ◌≤◌, ◌<◌}
use Rattle.lookup.specs.Lookup.{index_bits, destinations, segment_of, position_of}

-- where d destinations of k-bit indexes fit the result's s bits, no index position of any segment is at or past VL/k
abbrev pub PositionInside : Type 0
PositionInside = (k s vl d i r e : ℕ) → 0 < k → k * d ≤ s → r < d → e < vl / s → position_of s vl d (segment_of k s d i) r e < vl / k

-- LUTI4: no index position reaches VL/4, for either size, any i1, each destination and element, and any length; so 7 never comes
abbrev pub SevenNeverComes : Type 0
SevenNeverComes = (s vl i1 r e : ℕ) → (s ≡ 16) ⊎ (s ≡ 32) → r < destinations → e < vl / s → position_of s vl destinations (segment_of index_bits s destinations i1) r e < vl / index_bits

pub record Claims : Type 0 where
  pub position_inside : PositionInside
  pub seven_never_comes : SevenNeverComes
