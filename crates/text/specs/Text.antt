-- Document 01, "The lister": the hex digits, in ASCII.
use Rattle.std.specs.Prelude.{ℕ, zero, suc, ◌/◌, ◌%◌, ◌^◌, List, [], ◌∷◌, get_or}

-- 0123456789abcdef
abbrev pub glyphs : List ℕ
glyphs = 48 ∷ 49 ∷ 50 ∷ 51 ∷ 52 ∷ 53 ∷ 54 ∷ 55 ∷ 56 ∷ 57 ∷ 97 ∷ 98 ∷ 99 ∷ 100 ∷ 101 ∷ 102 ∷ []

abbrev pub glyph_of : ℕ → ℕ
glyph_of d = get_or glyphs d 0

-- the low n hex digits of w, the highest first
unfoldable pub hex_digits : ℕ → ℕ → List ℕ
hex_digits zero w = []
hex_digits (suc n) w = glyph_of (w / 16 ^ n % 16) ∷ hex_digits n w
