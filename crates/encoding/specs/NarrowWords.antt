-- Document 02, request 1: the words 45280000 + k · 400 (hex), k from 0 to 15, in the order of op:U:R:T: what each is read as under all features, and its name.
use Rattle.std.specs.Prelude.{◌≡◌, true, false, List, [], ◌∷◌, map, ℕ, ◌+◌, ◌*◌}
use Rattle.setting.specs.Numbers.{Outcome, accept}
use Rattle.encoding.specs.Decode.{decode_of}
use Rattle.encoding.specs.declared.Instruction.{Instruction}
use Rattle.encoding.specs.declared.Instruction.TheVariants.{Narrow}
use Rattle.encoding.specs.Named.{name_in}
use Rattle.encoding.specs.Points.{board}

abbrev pub narrow_word : ℕ → ℕ
narrow_word k = 0x45280000 + k * 0x400

abbrev pub narrow_words : List (Outcome Instruction × List ℕ)
narrow_words =
    -- SQSHRUNB
    (accept (Narrow false false false false 8 8 0 0), 83 ∷ 81 ∷ 83 ∷ 72 ∷ 82 ∷ 85 ∷ 78 ∷ 66 ∷ [])
    -- SQSHRUNT
    ∷ (accept (Narrow false false false true 8 8 0 0), 83 ∷ 81 ∷ 83 ∷ 72 ∷ 82 ∷ 85 ∷ 78 ∷ 84 ∷ [])
    -- SQRSHRUNB
    ∷ (accept (Narrow false false true false 8 8 0 0), 83 ∷ 81 ∷ 82 ∷ 83 ∷ 72 ∷ 82 ∷ 85 ∷ 78 ∷ 66 ∷ [])
    -- SQRSHRUNT
    ∷ (accept (Narrow false false true true 8 8 0 0), 83 ∷ 81 ∷ 82 ∷ 83 ∷ 72 ∷ 82 ∷ 85 ∷ 78 ∷ 84 ∷ [])
    -- SHRNB
    ∷ (accept (Narrow false true false false 8 8 0 0), 83 ∷ 72 ∷ 82 ∷ 78 ∷ 66 ∷ [])
    -- SHRNT
    ∷ (accept (Narrow false true false true 8 8 0 0), 83 ∷ 72 ∷ 82 ∷ 78 ∷ 84 ∷ [])
    -- RSHRNB
    ∷ (accept (Narrow false true true false 8 8 0 0), 82 ∷ 83 ∷ 72 ∷ 82 ∷ 78 ∷ 66 ∷ [])
    -- RSHRNT
    ∷ (accept (Narrow false true true true 8 8 0 0), 82 ∷ 83 ∷ 72 ∷ 82 ∷ 78 ∷ 84 ∷ [])
    -- SQSHRNB
    ∷ (accept (Narrow true false false false 8 8 0 0), 83 ∷ 81 ∷ 83 ∷ 72 ∷ 82 ∷ 78 ∷ 66 ∷ [])
    -- SQSHRNT
    ∷ (accept (Narrow true false false true 8 8 0 0), 83 ∷ 81 ∷ 83 ∷ 72 ∷ 82 ∷ 78 ∷ 84 ∷ [])
    -- SQRSHRNB
    ∷ (accept (Narrow true false true false 8 8 0 0), 83 ∷ 81 ∷ 82 ∷ 83 ∷ 72 ∷ 82 ∷ 78 ∷ 66 ∷ [])
    -- SQRSHRNT
    ∷ (accept (Narrow true false true true 8 8 0 0), 83 ∷ 81 ∷ 82 ∷ 83 ∷ 72 ∷ 82 ∷ 78 ∷ 84 ∷ [])
    -- UQSHRNB
    ∷ (accept (Narrow true true false false 8 8 0 0), 85 ∷ 81 ∷ 83 ∷ 72 ∷ 82 ∷ 78 ∷ 66 ∷ [])
    -- UQSHRNT
    ∷ (accept (Narrow true true false true 8 8 0 0), 85 ∷ 81 ∷ 83 ∷ 72 ∷ 82 ∷ 78 ∷ 84 ∷ [])
    -- UQRSHRNB
    ∷ (accept (Narrow true true true false 8 8 0 0), 85 ∷ 81 ∷ 82 ∷ 83 ∷ 72 ∷ 82 ∷ 78 ∷ 66 ∷ [])
    -- UQRSHRNT
    ∷ (accept (Narrow true true true true 8 8 0 0), 85 ∷ 81 ∷ 82 ∷ 83 ∷ 72 ∷ 82 ∷ 78 ∷ 84 ∷ [])
    ∷ []

abbrev pub NarrowNamed : Type 0
NarrowNamed = map (λ (k : ℕ). (decode_of board (narrow_word k), name_in (decode_of board (narrow_word k)))) (0 ∷ 1 ∷ 2 ∷ 3 ∷ 4 ∷ 5 ∷ 6 ∷ 7 ∷ 8 ∷ 9 ∷ 10 ∷ 11 ∷ 12 ∷ 13 ∷ 14 ∷ 15 ∷ []) ≡ narrow_words
