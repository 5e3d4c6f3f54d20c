-- Seven numbers: each form's are seven and read back, and what the definitions are in each case of a list's length.
use mathlib.Core.Path.{◌≡◌, refl}
use mathlib.Core.Bool.{Bool, true, false}
use mathlib.Core.List.{List}
use Prim.Native.Nat.{ℕ}
use lib.ListN.{length, get_or}
use borrow.Author.Tests.{eq-eqb, ne_eqb}
use Rattle.setting.specs.Numbers.{Outcome, accept, refuse}
use Rattle.encoding.specs.Instructions.{narrow_number}
use Rattle.encoding.specs.declared.Instruction.{Instruction}
use Rattle.encoding.specs.declared.Instruction.TheVariants.{Pext, Psel, Luti4c, Luti4s, Narrow}
use Rattle.numbers.specs.Fields.{numbers_of, narrow_at, instruction_at, instruction_of}
use Rattle.numbers.specs.Claims.{NumbersRead, RetiredUnused}

-- ---- reading
seven : (i : Instruction) → length (numbers_of i) ≡ 7
seven (Pext size first portions counter pd) = refl
seven (Psel size offset index pn pm pd) = refl
seven (Luti4c size i1 zn zd) = refl
seven (Luti4s size i1 zn zd) = refl
seven (Narrow op u r t size shift zn zd) = refl

-- four flags from their number, by computing
flags_read : (op u r t : Bool) (size shift zn zd : ℕ) → narrow_at (narrow_number op u r t) size shift zn zd ≡ accept (Narrow op u r t size shift zn zd)
flags_read true true true true size shift zn zd = refl
flags_read true true true false size shift zn zd = refl
flags_read true true false true size shift zn zd = refl
flags_read true true false false size shift zn zd = refl
flags_read true false true true size shift zn zd = refl
flags_read true false true false size shift zn zd = refl
flags_read true false false true size shift zn zd = refl
flags_read true false false false size shift zn zd = refl
flags_read false true true true size shift zn zd = refl
flags_read false true true false size shift zn zd = refl
flags_read false true false true size shift zn zd = refl
flags_read false true false false size shift zn zd = refl
flags_read false false true true size shift zn zd = refl
flags_read false false true false size shift zn zd = refl
flags_read false false false true size shift zn zd = refl
flags_read false false false false size shift zn zd = refl

pub retired_unused : RetiredUnused
retired_unused = (λ a b c d e f. refl, (λ a b c d e f. refl, (λ a b c d e f. refl, tt)))

-- read back: of each form by computing
pub numbers_read : NumbersRead
unfolding instruction_of
numbers_read (Pext size first portions counter pd) = refl
numbers_read (Psel size offset index pn pm pd) = refl
numbers_read (Luti4c size i1 zn zd) = refl
numbers_read (Luti4s size i1 zn zd) = refl
numbers_read (Narrow op u r t size shift zn zd) = flags_read op u r t size shift zn zd

-- ---- writing
module _ (xs : List ℕ) where
  pub not_seven : (length xs ≡ 7 → ⊥) → refuse 9 ≡ instruction_of xs
  unfolding instruction_of
  not_seven h = rw (ne_eqb (length xs) 7 h)

  pub of_seven : (o : Outcome Instruction) → length xs ≡ 7 → o ≡ instruction_at (get_or xs 0 0) (get_or xs 1 0) (get_or xs 2 0) (get_or xs 3 0) (get_or xs 4 0) (get_or xs 5 0) (get_or xs 6 0) → o ≡ instruction_of xs
  unfolding instruction_of
  of_seven o l e = rw (eq-eqb (length xs) 7 l) e
