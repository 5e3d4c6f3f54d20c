-- No answer has 7, case by case; and each has a number of its own, by which it is found again.
use mathlib.Core.Path.{◌≡◌, refl, sym, ap, ◌∙◌}
use mathlib.Core.List.{[], ◌∷◌}
use Prim.Native.Nat.{ℕ}
use native.Mathlib.Omega.{arith}
use lib.ListN.{get_or}
use Rattle.std.specs.Prelude.{Ok, Err}
use Rattle.setting.specs.Numbers.{Answer, number_of}
use Rattle.setting.specs.Claims.{NumbersApart, SevenUnused}
use Rattle.setting.specs.declared.Refusal.TheVariants.{NotAllowed, WrongLength, Undefined, VectorsClosed, StreamingClosed, TableClosed, TooManyWords, OutOfRange}

pub seven_unused : SevenUnused
seven_unused (Ok done) e = omega arith
seven_unused (Err NotAllowed) e = omega arith
seven_unused (Err WrongLength) e = omega arith
seven_unused (Err Undefined) e = omega arith
seven_unused (Err VectorsClosed) e = omega arith
seven_unused (Err StreamingClosed) e = omega arith
seven_unused (Err TableClosed) e = omega arith
seven_unused (Err TooManyWords) e = omega arith
seven_unused (Err OutOfRange) e = omega arith

-- the answers by their numbers; at 7, where none is, stands any
abbrev answer_at : ℕ → Answer
answer_at n = get_or (Ok tt ∷ Err NotAllowed ∷ Err WrongLength ∷ Err Undefined ∷ Err VectorsClosed ∷ Err StreamingClosed ∷ Err TableClosed ∷ Ok tt ∷ Err TooManyWords ∷ Err OutOfRange ∷ []) n (Ok tt)

found : (a : Answer) → answer_at (number_of a) ≡ a
found (Ok done) = refl
found (Err NotAllowed) = refl
found (Err WrongLength) = refl
found (Err Undefined) = refl
found (Err VectorsClosed) = refl
found (Err StreamingClosed) = refl
found (Err TableClosed) = refl
found (Err TooManyWords) = refl
found (Err OutOfRange) = refl

pub numbers_apart : NumbersApart
numbers_apart a b e = sym (found a) ∙ ap answer_at e ∙ found b
