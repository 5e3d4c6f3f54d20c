-- Two layouts whose fixed bits disagree on a bit that both fix match no common word: masking by both masks, in either order, gives one number.
use mathlib.Core.Path.{◌≡◌, refl, sym, ap, ◌∙◌}
use mathlib.Core.Bool.{Bool, true, false, not}
use mathlib.Core.List.{List}
use Prim.Native.Nat.{ℕ}
use lib.Dec.{T, eqb, T_not, eqb_refl}
use lib.Bits.{bit_and}
use Rattle.element.proofs.Masked.{masked_either}
use Rattle.encoding.specs.Layout.{Piece, matches, fixed_of}
use Rattle.encoding.proofs.LayoutLaws.{sound, mask_of, matches_masked}

-- ---- layouts apart
abbrev pub apart : List Piece → List Piece → Bool
apart L M = not (eqb (bit_and (fixed_of L) (mask_of M)) (bit_and (fixed_of M) (mask_of L)))

pub decide : {X : Type 0} (b : Bool) → (b ≡ true → X) → (b ≡ false → X) → X
decide true p q = p refl
decide false p q = q refl

pub not_both : (L M : List Piece) → T (sound L) → T (sound M) → T (apart L M) → (w : ℕ) → matches L w ≡ true → matches M w ≡ false
not_both L M s t d w l =
    decide (matches M w)
    (λ m.
    let e : bit_and (fixed_of L) (mask_of M) ≡ bit_and (fixed_of M) (mask_of L)
    = ap (λ (x : ℕ). bit_and x (mask_of M)) (sym (matches_masked L s w l)) ∙ masked_either w (mask_of L) (mask_of M) ∙ ap (λ (x : ℕ). bit_and x (mask_of L)) (matches_masked M t w m) in
    absurd (T_not (eqb (bit_and (fixed_of L) (mask_of M)) (bit_and (fixed_of M) (mask_of L))) d (rw e (eqb_refl (bit_and (fixed_of M) (mask_of L))))))
    (λ m. m)
