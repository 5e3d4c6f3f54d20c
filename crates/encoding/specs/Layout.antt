-- Document 01, "Layouts": a layout is a word's pieces from bit 31 down, each of some bits that are fixed or a field.
use Rattle.std.specs.Prelude.{Bool, List, [], ◌∷◌, ℕ, ◌+◌, ◌*◌, ◌%◌, ◌/◌, ◌^◌, eqb}

-- `fix k v` is k bits with the value v, `var k` a field of k bits
pub data Piece : Type 0 where
  fix : ℕ → ℕ → Piece
  var : ℕ → Piece

abbrev pub width : List Piece → ℕ
width [] = 0
width (fix k v ∷ L) = k + width L
width (var k ∷ L) = k + width L

-- the raw fields of a word, from the highest
abbrev pub fields_of : List Piece → ℕ → List ℕ
fields_of [] w = []
fields_of (fix k v ∷ L) w = fields_of L w
fields_of (var k ∷ L) w = w / 2 ^ width L % 2 ^ k ∷ fields_of L w

-- the word of some raw fields
abbrev pub word_of : List Piece → List ℕ → ℕ
word_of [] xs = 0
word_of (fix k v ∷ L) xs = v * 2 ^ width L + word_of L xs
word_of (var k ∷ L) [] = 0
word_of (var k ∷ L) (x ∷ xs) = x * 2 ^ width L + word_of L xs

-- the word of fields that are all 0: what the fixed bits are fixed to
abbrev pub fixed_of : List Piece → ℕ
fixed_of [] = 0
fixed_of (fix k v ∷ L) = v * 2 ^ width L + fixed_of L
fixed_of (var k ∷ L) = fixed_of L

-- the word is the word of its own fields: every fixed piece is as the layout has it
abbrev pub matches : List Piece → ℕ → Bool
matches L w = eqb (word_of L (fields_of L w)) w
