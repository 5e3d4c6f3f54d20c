-- The rules of the tables, each by one test that is computed over all entries, and what a function reads by them.
use mathlib.Core.Path.{◌≡◌}
use mathlib.Core.Bool.{Bool}
use mathlib.Core.List.{List}
use Prim.Native.Nat.{ℕ, ◌+◌, ◌*◌, ◌/◌, ◌%◌, ◌<◌}
use lib.Dec.{T, eqb, eqb→eq}
use lib.ListN.{get_or}
use Rattle.logic.specs.Every.{all}
use Rattle.element.proofs.Below.{below}
use Rattle.text.specs.Text.{glyph_of}
use Rattle.listing.specs.declared.TheConstants.{PAIRS}

abbrev highs : List ℕ → ℕ → Bool
highs t b = eqb (get_or t (2 * b) 0) (glyph_of (b / 16))

abbrev lows : List ℕ → ℕ → Bool
lows t b = eqb (get_or t (2 * b + 1) 0) (glyph_of (b % 16))

pairs_by : (t : List ℕ) → T (all (highs t) 256) → T (all (lows t) 256) → (b : ℕ) → b < 256 → (get_or t (2 * b) 0 ≡ glyph_of (b / 16)) × (get_or t (2 * b + 1) 0 ≡ glyph_of (b % 16))
pairs_by t h l b m = (
  eqb→eq (get_or t (2 * b) 0) (glyph_of (b / 16)) (below (highs t) 256 h b m),
  eqb→eq (get_or t (2 * b + 1) 0) (glyph_of (b % 16)) (below (lows t) 256 l b m),
)

-- the two digits of a byte
pub pairs_at : (b : ℕ) → b < 256 → (get_or PAIRS (2 * b) 0 ≡ glyph_of (b / 16)) × (get_or PAIRS (2 * b + 1) 0 ≡ glyph_of (b % 16))
pairs_at = pairs_by PAIRS tt tt
