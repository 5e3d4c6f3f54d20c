-- A word's name is the one at its index in the code's table: by its form, and of a narrowing word by its four bits, each combination computed.
use mathlib.Core.Path.{◌≡◌, refl, ap, ◌∙◌}
use mathlib.Core.Bool.{Bool, true, false, cond}
use mathlib.Core.List.{List}
use Prim.Native.Nat.{ℕ, ◌+◌, ◌/◌, ◌%◌, ◌≤◌}
use native.Mathlib.Omega.{arith}
use lib.Dec.{eqb}
use lib.ListN.{length}
use Rattle.std.specs.Prelude.{ltb, Some, None, unwrap_or}
use Rattle.std.proofs.lemmas.Bool.{ltb-false}
use Rattle.logic.specs.Pick.{pick}
use Rattle.setting.specs.Numbers.{Outcome, accept, refuse}
use Rattle.element.specs.Contents.{digit}
use Rattle.encoding.specs.Instructions.{is_set, narrow_number}
use Rattle.encoding.specs.Names.{narrow_letters}
use Rattle.encoding.specs.Rows.{rows, pext1, pext2}
use Rattle.encoding.specs.Places.{place_in, found_place}
use Rattle.encoding.proofs.Round.{place_lt}
use Rattle.encoding.specs.Decode.{decode_of}
use Rattle.encoding.specs.declared.Instruction.{Instruction}
use Rattle.encoding.specs.declared.Instruction.TheVariants.{Pext, Psel, Luti4c, Luti4s, Narrow}
use Rattle.encoding.proofs.FourBits.{FourBits, four_bits}
use Rattle.encoding.specs.Named.{name_in}
use Rattle.text.specs.Name.{all_on, name_of}
use Rattle.listing.specs.Private.{names, name_at}

-- the index by the form's place, and of a narrowing word by op:U:R:T
abbrev pub index_of : ℕ → ℕ → ℕ
index_of place bits = place + cond (eqb place 5) bits 0 + cond (eqb place 6) 15 0

-- a form's place; the table's length where there is none
or_no_row : (b : Bool) (n : ℕ) → ltb n (length rows) ≡ b → n ≤ length rows → unwrap_or (pick b (Some n) None) (length rows) ≡ n
or_no_row true n e h = refl
or_no_row false n e h = let l = ltb-false n (length rows) e in omega (arith, l)

place_le : (o : Outcome Instruction) → place_in o ≤ length rows
place_le (accept i) = omega (arith, place_lt i)
place_le (refuse n) = omega arith

place_or_rows : (o : Outcome Instruction) → unwrap_or (found_place (place_in o)) (length rows) ≡ place_in o
place_or_rows o = or_no_row (ltb (place_in o) (length rows)) (place_in o) refl (place_le o)

flags_named : (op u r t : Bool) → name_at (5 + narrow_number op u r t + 0) ≡ narrow_letters (is_set (digit op)) (is_set (digit u)) (is_set (digit r)) (is_set (digit t))
flags_named false false false false = refl
flags_named false false false true = refl
flags_named false false true false = refl
flags_named false false true true = refl
flags_named false true false false = refl
flags_named false true false true = refl
flags_named false true true false = refl
flags_named false true true true = refl
flags_named true false false false = refl
flags_named true false false true = refl
flags_named true false true false = refl
flags_named true false true true = refl
flags_named true true false false = refl
flags_named true true false true = refl
flags_named true true true false = refl
flags_named true true true true = refl

-- by the row of a pair, or of one portion
pext_named : (pair : Bool) (xs : List ℕ) (n : ℕ) → (name_at (index_of (pick pair 1 0) n) ≡ (pick pair pext2 pext1).name xs) × (index_of (pick pair 1 0) n ≤ length names)
pext_named true xs n = (refl, omega arith)
pext_named false xs n = (refl, omega arith)

named : (w : ℕ) (o : Outcome Instruction) → ((i : Instruction) → o ≡ accept i → FourBits w i) → (name_at (index_of (place_in o) (w / 0x400 % 16)) ≡ name_in o) × (index_of (place_in o) (w / 0x400 % 16) ≤ length names)
named w (accept (Pext size first portions counter pd)) f = pext_named (eqb portions 2) _ (w / 0x400 % 16)
named w (accept (Psel size offset index pn pm pd)) f = (refl, omega arith)
named w (accept (Luti4c size i1 zn zd)) f = (refl, omega arith)
named w (accept (Luti4s size i1 zn zd)) f = (refl, omega arith)
named w (accept (Narrow op u r t size shift zn zd)) f = let e = f (Narrow op u r t size shift zn zd) refl in (ap (λ (n : ℕ). name_at (5 + n + 0)) e ∙ flags_named op u r t, omega arith)
named w (refuse n) f = (refl, omega arith)

-- the place that the code goes by
abbrev pub shown_place : ℕ → ℕ
shown_place w = unwrap_or (found_place (place_in (decode_of all_on w))) (length rows)

pub name_is : (w : ℕ) → (name_at (index_of (shown_place w) (w / 0x400 % 16)) ≡ name_of w) × (index_of (shown_place w) (w / 0x400 % 16) ≤ length names)
unfolding name_of
name_is w = rw (place_or_rows (decode_of all_on w)) (named w (decode_of all_on w) (λ i e. four_bits all_on w i e))
