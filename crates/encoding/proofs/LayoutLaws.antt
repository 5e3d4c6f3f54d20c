-- Laws of any layout, by induction on its pieces: fields that fit are read back from their word, and what masking out a word's fields leaves.
use mathlib.Core.Path.{◌≡◌, refl, sym, ap, ap₂, subst, ◌∙◌}
use mathlib.Core.Bool.{Bool, true, ◌&&◌}
use mathlib.Core.List.{List, [], ◌∷◌}
use Prim.Native.Nat.{ℕ, ◌+◌, ◌-◌, ◌*◌, ◌%◌, ◌/◌, ◌^◌, ◌<◌}
use native.Mathlib.Nat.{mod-lt, mod-one, mod-eq_of_lt}
use native.Mathlib.Omega.{arith}
use lib.Dec.{T, ltb, ltb→lt}
use lib.Arith.{digits_lt}
use lib.Bits.{bit_and, and_block, and_zero_r, and_mask}
use lib.Pow.{pow-add, pow_pos, high, low, split, mod-pow-add, ones_lt}
use borrow.Author.Tests.{eq-eqb, eqb-true}
use Rattle.element.proofs.Below.{both}
use Rattle.encoding.specs.Layout.{Piece, fix, var, width, fields_of, word_of, matches, fixed_of}

-- each fixed piece is within its bits
abbrev pub sound : List Piece → Bool
sound [] = true
sound (fix k v ∷ L) = ltb v (2 ^ k) && sound L
sound (var k ∷ L) = sound L

-- each field and fixed piece is within its bits, and the fields are as many as the layout has
abbrev pub Fit : List Piece → List ℕ → Type 0
Fit [] [] = Unit {0}
Fit [] (x ∷ xs) = ⊥
Fit (fix k v ∷ L) xs = (v < 2 ^ k) × Fit L xs
Fit (var k ∷ L) [] = ⊥
Fit (var k ∷ L) (x ∷ xs) = (x < 2 ^ k) × Fit L xs

-- the bits that a layout fixes
abbrev pub mask_of : List Piece → ℕ
mask_of [] = 0
mask_of (fix k v ∷ L) = (2 ^ k - 1) * 2 ^ width L + mask_of L
mask_of (var k ∷ L) = mask_of L

-- ---- a piece above the rest
split_at : (h k m x l : ℕ) → h * 2 ^ (k + m) + (x * 2 ^ m + l) ≡ (h * 2 ^ k + x) * 2 ^ m + l
split_at h k m x l = rw (pow-add 2 k m) (omega arith)

digit : (h k m x : ℕ) {l : ℕ} → l < 2 ^ m → x < 2 ^ k → (h * 2 ^ (k + m) + (x * 2 ^ m + l)) / 2 ^ m % 2 ^ k ≡ x
digit h k m x {l} hl hx = ap (λ (y : ℕ). y / 2 ^ m % 2 ^ k) (split_at h k m x l) ∙ ap (λ (y : ℕ). y % 2 ^ k) (high (h * 2 ^ k + x) m hl) ∙ low h k hx

less : (k m x : ℕ) {l : ℕ} → l < 2 ^ m → x < 2 ^ k → x * 2 ^ m + l < 2 ^ (k + m)
less k m x {l} hl hx = subst (λ (n : ℕ). x * 2 ^ m + l < n) (sym (pow-add 2 k m)) (digits_lt hx hl)

-- ---- fields to word and back
pub word_lt : (L : List Piece) (xs : List ℕ) → Fit L xs → word_of L xs < 2 ^ width L
word_lt [] [] f = omega arith
word_lt [] (x ∷ xs) f = absurd f
word_lt (fix k v ∷ L) xs f = less k (width L) v (word_lt L xs f.1) f.0
word_lt (var k ∷ L) [] f = absurd f
word_lt (var k ∷ L) (x ∷ xs) f = less k (width L) x (word_lt L xs f.1) f.0

forth_under : (L : List Piece) (xs : List ℕ) → Fit L xs → (h : ℕ) → fields_of L (h * 2 ^ width L + word_of L xs) ≡ xs
forth_under [] [] f h = refl
forth_under [] (x ∷ xs) f h = absurd f
forth_under (fix k v ∷ L) xs f h = ap (fields_of L) (split_at h k (width L) v (word_of L xs)) ∙ forth_under L xs f.1 (h * 2 ^ k + v)
forth_under (var k ∷ L) [] f h = absurd f
forth_under (var k ∷ L) (x ∷ xs) f h =
    ap₂ (λ (y : ℕ) (ys : List ℕ). y ∷ ys) (digit h k (width L) x (word_lt L xs f.1) f.0)
    (ap (fields_of L) (split_at h k (width L) x (word_of L xs)) ∙ forth_under L xs f.1 (h * 2 ^ k + x))

no_head : (m l : ℕ) → 0 * m + l ≡ l
no_head m l = omega arith

pub fields_back : (L : List Piece) (xs : List ℕ) → Fit L xs → fields_of L (word_of L xs) ≡ xs
fields_back L xs f = subst (λ (w : ℕ). fields_of L w ≡ xs) (no_head (2 ^ width L) (word_of L xs)) (forth_under L xs f 0)

pub word_matches : (L : List Piece) (xs : List ℕ) → Fit L xs → matches L (word_of L xs) ≡ true
word_matches L xs f = eq-eqb (word_of L (fields_of L (word_of L xs))) (word_of L xs) (ap (word_of L) (fields_back L xs f))

pub fields_fit : (L : List Piece) → T (sound L) → (w : ℕ) → Fit L (fields_of L w)
fields_fit [] s w = tt
fields_fit (fix k v ∷ L) s w = let p = both (ltb v (2 ^ k)) (sound L) s in (ltb→lt v (2 ^ k) p.0, fields_fit L p.1 w)
fields_fit (var k ∷ L) s w = (mod-lt (w / 2 ^ width L) (pow_pos k), fields_fit L s w)

-- ---- masks
pub mask_lt : (L : List Piece) → mask_of L < 2 ^ width L
mask_lt [] = omega arith
mask_lt (fix k v ∷ L) = less k (width L) (2 ^ k - 1) (mask_lt L) (ones_lt k)
mask_lt (var k ∷ L) = subst (λ (x : ℕ). x < 2 ^ (k + width L)) (no_head (2 ^ width L) (mask_of L)) (less k (width L) 0 (mask_lt L) (pow_pos k))

-- the bits of a mask at and above place m act on the word's bits there
and_split : (w c m l : ℕ) → l < 2 ^ m → bit_and w (c * 2 ^ m + l) ≡ bit_and (w / 2 ^ m) c * 2 ^ m + bit_and (w % 2 ^ m) l
and_split w c m l h = ap (λ (x : ℕ). bit_and x (c * 2 ^ m + l)) (sym (split w m)) ∙ and_block m (w / 2 ^ m) c (w % 2 ^ m) l (mod-lt w (pow_pos m)) h

and_low : (w m l : ℕ) → l < 2 ^ m → bit_and (w % 2 ^ m) l ≡ bit_and w l
and_low w m l h = sym (ap (bit_and w) (sym (no_head (2 ^ m) l)) ∙ and_split w 0 m l h ∙ ap (λ (x : ℕ). x * 2 ^ m + bit_and (w % 2 ^ m) l) (and_zero_r (w / 2 ^ m)) ∙ no_head (2 ^ m) (bit_and (w % 2 ^ m) l))

-- putting a word's own fields into the layout replaces its fixed bits, and only those
pub replaced : (L : List Piece) (w : ℕ) → word_of L (fields_of L w) + bit_and w (mask_of L) ≡ w % 2 ^ width L + fixed_of L
replaced [] w = simp (and_zero_r w, mod-one w)
replaced (fix k v ∷ L) w =
    omega (
      arith,
      replaced L w,
      and_split w (2 ^ k - 1) (width L) (mask_of L) (mask_lt L),
      and_low w (width L) (mask_of L) (mask_lt L),
      ap (λ (x : ℕ). x * 2 ^ width L) (and_mask (w / 2 ^ width L) k),
      mod-pow-add w k (width L),
    )
replaced (var k ∷ L) w = omega (arith, replaced L w, mod-pow-add w k (width L))

-- a word matches exactly when its fixed bits are the layout's
pub matches_masked : (L : List Piece) → T (sound L) → (w : ℕ) → matches L w ≡ true → bit_and w (mask_of L) ≡ fixed_of L
matches_masked L s w e =
    let own : word_of L (fields_of L w) ≡ w = eqb-true (word_of L (fields_of L w)) w e in
    let lt : w < 2 ^ width L = subst (λ (x : ℕ). x < 2 ^ width L) own (word_lt L (fields_of L w) (fields_fit L s w)) in
    omega (arith, replaced L w, mod-eq_of_lt lt)

pub masked_matches : (L : List Piece) (w : ℕ) → w < 2 ^ width L → bit_and w (mask_of L) ≡ fixed_of L → matches L w ≡ true
masked_matches L w lt e = eq-eqb (word_of L (fields_of L w)) w (omega (arith, replaced L w, mod-eq_of_lt lt))
