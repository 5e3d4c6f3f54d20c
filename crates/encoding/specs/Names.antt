-- Document 02, request 1, "the manual's names": the sixteen narrowing words', by the raw fields op, U, R and T, in ASCII.
use Rattle.std.specs.Prelude.{Bool, true, false, not, ◌&&◌, List, [], ◌∷◌, ◌++◌, ℕ}
use Rattle.logic.specs.Pick.{pick}
use Rattle.encoding.specs.Instructions.{raw, is_set}

-- SQ or UQ: saturated from a signed or an unsigned element; none: the low half
abbrev pub saturation_letters : Bool → Bool → List ℕ
saturation_letters false false = 83 ∷ 81 ∷ []
saturation_letters false true = []
saturation_letters true false = 83 ∷ 81 ∷ []
saturation_letters true true = 85 ∷ 81 ∷ []

-- R: rounded; SHR; U: from a signed element to the unsigned range; N; T or B
abbrev pub narrow_letters : Bool → Bool → Bool → Bool → List ℕ
narrow_letters op u r t =
    saturation_letters op u ++ (pick r (82 ∷ []) [] ++ (83 ∷ 72 ∷ 82 ∷ (pick (not op && not u) (85 ∷ []) [] ++ (78 ∷ pick t 84 66 ∷ []))))

abbrev pub narrow_name : List ℕ → List ℕ
narrow_name xs = narrow_letters (is_set (raw xs 3)) (is_set (raw xs 4)) (is_set (raw xs 5)) (is_set (raw xs 6))
