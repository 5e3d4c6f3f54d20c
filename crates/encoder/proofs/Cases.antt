-- What `encode_of` is in each case that the code meets: what the functions' proofs cite.
use mathlib.Core.Path.{◌≡◌, ap, ◌∙◌}
use mathlib.Core.Bool.{Bool, true, false}
use mathlib.Core.List.{[]}
use Prim.Native.Nat.{ℕ}
use Rattle.setting.specs.Allowed.{has_any, allowed_of}
use Rattle.setting.specs.declared.Setting.{Setting}
use Rattle.encoding.specs.Layout.{word_of}
use Rattle.encoding.specs.Instructions.{in_range, raw_of}
use Rattle.encoding.specs.Rows.{row_of, place_of}
use Rattle.encoding.specs.Places.{features_at}
use Rattle.encoding.specs.Encode.{written, unwritten, encode_of}
use Rattle.encoding.specs.declared.Instruction.{Instruction}
use Rattle.encoding.proofs.Round.{column_at_place}

module _ (s : Setting) (i : Instruction) where
  pub encode_not_allowed : allowed_of s ≡ false → unwritten 1 ≡ encode_of s i
  unfolding encode_of
  encode_not_allowed a = simp a

  module _ (a : allowed_of s ≡ true) where
    pub encode_out_of_range : in_range i ≡ false → unwritten 9 ≡ encode_of s i
    unfolding encode_of
    encode_out_of_range g = simp (a, g)

    module _ (g : in_range i ≡ true) where
      pub encode_undefined : has_any s.features (row_of i).features ≡ false → unwritten 3 ≡ encode_of s i
      unfolding encode_of
      encode_undefined h = simp (a, g, h)

      pub encode_word : has_any s.features (row_of i).features ≡ true → {w : ℕ} → w ≡ word_of (row_of i).layout (raw_of i) → written w ≡ encode_of s i
      unfolding encode_of
      encode_word h e = simp (a, g, h) (ap written e)

-- the features at the instruction's place are its row's
pub its_features : (i : Instruction) (f : ℕ) {k : ℕ} {b : Bool} → k ≡ place_of i → b ≡ has_any f (features_at k) → b ≡ has_any f (row_of i).features
its_features i f e h = h ∙ ap (λ (j : ℕ). has_any f (features_at j)) e ∙ ap (has_any f) (column_at_place (λ r. r.features) [] i)
