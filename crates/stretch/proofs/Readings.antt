-- A word's reading as the code has it and as the definitions have it, what refuses a word under an allowed setting, and what a question about two words answers for each: by cases on what the word is decoded as.
use Rattle.std.proofs.Common.{Result, Ok, Err}
use mathlib.Core.Path.{◌≡◌, refl, sym, ◌∙◌, ap}
use mathlib.Core.Bool.{Bool, true, false}
use mathlib.Core.List.{List, [], ◌∷◌}
use Prim.Native.Nat.{ℕ}
use Rattle.setting.specs.Numbers.{Outcome, accept, refuse, refusal_number}
use Rattle.setting.specs.declared.Setting.{Setting}
use Rattle.setting.specs.declared.Refusal.{Refusal}
use Rattle.setting.specs.Allowed.{allowed_of}
use Rattle.logic.specs.Pick.{pick}
use Rattle.encoding.specs.Layout.{fields_of}
use Rattle.encoding.specs.Rows.{Row, rows, row_matches}
use Rattle.encoding.specs.Decode.{first_of, decode_of}
use Rattle.encoding.specs.declared.Instruction.{Instruction}
use Rattle.machine.specs.Effects.{effect_of}
use Rattle.machine.specs.Step.{over_word}
use Rattle.stretch.specs.Conflict.{conflict, is_read, if_read, conflict_of}
use Rattle.stretch.specs.Private.{touch_by, touch_in, touch_of, reading_of, reading_as, clashes}
use Rattle.stretch.specs.declared.touch.Touch.{Touch}
use Rattle.stretch.proofs.Clashes.{clash_is_conflict}

-- ---- under an allowed setting 3 alone refuses a word
first_undefined : (rs : List Row) (f w n : ℕ) → first_of rs f w ≡ refuse n → n ≡ 3
first_undefined [] f w n e = cc
first_undefined (r ∷ rs) f w n e = go (row_matches r f w) e (first_undefined rs f w n)
  where
    go : (b : Bool) → pick b (accept (r.reading (fields_of r.layout w))) (first_of rs f w) ≡ refuse n → (first_of rs f w ≡ refuse n → n ≡ 3) → n ≡ 3
    go true h ih = cc
    go false h ih = ih h

read_first : (s : Setting) (w : ℕ) → allowed_of s ≡ true → decode_of s w ≡ first_of rows s.features w
unfolding decode_of
read_first s w h = rw h

refused_as : (d : Outcome Instruction) (n : ℕ) → touch_in d ≡ refuse n → d ≡ refuse n
refused_as (accept i) n e = cc
refused_as (refuse m) n e = cc

-- ---- what a reading says of the word
touch_in_lem : (d : Outcome Instruction) (t : Touch) → touch_in d ≡ accept t → t ≡ touch_by (over_word [] (λ i. (effect_of i).reads) d) (over_word [] (λ i. (effect_of i).writes) d)
touch_in_lem (accept i) t e = cc
touch_in_lem (refuse n) t e = cc

not_read : (d : Outcome Instruction) (n : ℕ) → touch_in d ≡ refuse n → over_word false (λ i. true) d ≡ false
not_read (accept i) n e = cc
not_read (refuse m) n e = refl

module _ (s : Setting) (w : ℕ) {r : Result Touch Refusal} (e : reading_as r ≡ reading_of s w) where
  touching : {t : Touch} → r ≡ Ok t → reading_of s w ≡ accept t
  touching k = sym e ∙ ap reading_as k

  unread : {a : Refusal} → r ≡ Err a → reading_of s w ≡ refuse (refusal_number a)
  unread k = sym e ∙ ap reading_as k

  pub touch_is : {t : Touch} → r ≡ Ok t → t ≡ touch_of s w
  touch_is {t} k = touch_in_lem (decode_of s w) t (touching k)

  pub is_unread : {a : Refusal} → r ≡ Err a → is_read s w ≡ false
  is_unread {a} k = not_read (decode_of s w) (refusal_number a) (unread k)

  pub undefined : {a : Refusal} → allowed_of s ≡ true → r ≡ Err a → refusal_number a ≡ 3
  undefined {a} h k = first_undefined rows s.features w (refusal_number a) (sym (read_first s w h) ∙ refused_as (decode_of s w) (refusal_number a) (unread k))

-- ---- two words
if_refused : (d : Outcome Instruction) (n : ℕ) (o : Outcome Bool) → touch_in d ≡ refuse n → refuse n ≡ if_read d o
if_refused (accept i) n o e = cc
if_refused (refuse m) n o e = cc

if_touches : (d : Outcome Instruction) (t : Touch) (o : Outcome Bool) → touch_in d ≡ accept t → o ≡ if_read d o
if_touches (accept i) t o e = refl
if_touches (refuse m) t o e = cc

module _ (s : Setting) (v w : ℕ) {r : Result Touch Refusal} (e : reading_as r ≡ reading_of s v) where
  pub first_refused : {a : Refusal} → r ≡ Err a → refuse (refusal_number a) ≡ conflict_of s v w
  unfolding conflict_of
  first_refused {a} k = if_refused (decode_of s v) (refusal_number a) _ (unread s v e k)

  module _ {t : Touch} (k : r ≡ Ok t) {q : Result Touch Refusal} (f : reading_as q ≡ reading_of s w) where
    pub second_refused : {a : Refusal} → q ≡ Err a → refuse (refusal_number a) ≡ conflict_of s v w
    unfolding conflict_of
    second_refused {a} l = if_refused (decode_of s w) (refusal_number a) _ (unread s w f l) ∙ if_touches (decode_of s v) t _ (touching s v e k)

    pub both_read : {u : Touch} {b : Bool} → q ≡ Ok u → b ≡ clashes t u → accept b ≡ conflict_of s v w
    unfolding conflict_of
    both_read {u} l h =
        let z : clashes t u ≡ conflict s v w = rw (touch_is s v e k, touch_is s w f l) (clash_is_conflict s v w) in
        ap accept (h ∙ z)
        ∙ if_touches (decode_of s w) u _ (touching s w f l)
        ∙ if_touches (decode_of s v) t _ (touching s v e k)
