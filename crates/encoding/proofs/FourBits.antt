-- A word that is read as a narrowing word has op:U:R:T in its bits 13:10: what is read is some row's reading, and of the other rows there is nothing to show.
use mathlib.Core.Path.{◌≡◌, ap, ◌∙◌}
use Prim.Native.Nat.{ℕ, ◌+◌, ◌*◌, ◌/◌, ◌%◌}
use native.Mathlib.Omega.{arith}
use Rattle.setting.specs.Allowed.{allowed_of}
use Rattle.setting.specs.Numbers.{accept}
use Rattle.setting.specs.declared.Setting.{Setting}
use Rattle.encoding.specs.Instructions.{narrow_number}
use Rattle.encoding.specs.Rows.{rows}
use Rattle.encoding.specs.Decode.{decode_of}
use Rattle.encoding.specs.declared.Instruction.{Instruction}
use Rattle.encoding.specs.declared.Instruction.TheVariants.{Pext, Psel, Luti4c, Luti4s, Narrow}
use Rattle.encoding.proofs.Apart.{decide}
use Rattle.encoding.proofs.Choice.{accepted_by}
use Rattle.encoding.proofs.FieldBits.{digit_set}

abbrev pub FourBits : ℕ → Instruction → Type 0
FourBits w (Pext size first portions counter pd) = Unit {0}
FourBits w (Psel size offset index pn pm pd) = Unit {0}
FourBits w (Luti4c size i1 zn zd) = Unit {0}
FourBits w (Luti4s size i1 zn zd) = Unit {0}
FourBits w (Narrow op u r t size shift zn zd) = w / 0x400 % 16 ≡ narrow_number op u r t

-- a bit at a time: omega takes no more at once
with_op : (w : ℕ) → w / 0x400 % 16 ≡ 8 * (w / 0x2000 % 2) + w / 0x400 % 8
with_op w = omega arith

with_u : (w : ℕ) → w / 0x400 % 8 ≡ 4 * (w / 0x1000 % 2) + w / 0x400 % 4
with_u w = omega arith

with_r : (w : ℕ) → w / 0x400 % 4 ≡ 2 * (w / 0x800 % 2) + w / 0x400 % 2
with_r w = omega arith

together : (w : ℕ) → w / 0x400 % 16 ≡ 8 * (w / 0x2000 % 2) + (4 * (w / 0x1000 % 2) + (2 * (w / 0x800 % 2) + w / 0x400 % 2))
together w = with_op w ∙ ap (λ (n : ℕ). 8 * (w / 0x2000 % 2) + n) (with_u w ∙ ap (λ (n : ℕ). 4 * (w / 0x1000 % 2) + n) (with_r w))

pub four_bits : (s : Setting) (w : ℕ) (i : Instruction) → decode_of s w ≡ accept i → FourBits w i
unfolding decode_of
four_bits s w i e =
    decide (allowed_of s)
    (λ a. accepted_by (FourBits w) s.features w rows (
      λ m. tt,
      (
        λ m. tt,
        (
          λ m. tt,
          (
            λ m. tt,
            (
              λ m. tt,
              (λ m. rw (digit_set (w / 0x2000 % 2) (omega arith), digit_set (w / 0x1000 % 2) (omega arith), digit_set (w / 0x800 % 2) (omega arith), digit_set (w / 0x400 % 2) (omega arith)) (together w), tt),
            ),
          ),
        ),
      ),
    )
    i (simp a at e))
    (λ a. let c = simp a at e in let z : ◌≡◌ {A = ℕ} 0 1 = cc in absurd (omega arith))
