-- The bits of a list are the list: a register's bit is set where the register is held, so two lists meet where their bits are shared, and two words conflict where their touches clash. By induction on the lists.
use mathlib.Core.Path.{◌≡◌, refl, sym, ◌∙◌, ap, ap₂}
use mathlib.Core.Bool.{Bool, true, false, ◌||◌, or_assoc}
use mathlib.Core.List.{List, [], ◌∷◌, ◌++◌}
use Prim.Native.Nat.{ℕ, ◌+◌}
use Rattle.setting.specs.declared.Setting.{Setting}
use Rattle.order.specs.Banks.{Register, same_register}
use Rattle.order.specs.Touch.{holds, meet, conflicting}
use Rattle.machine.specs.Step.{reads, writes}
use Rattle.stretch.specs.Conflict.{conflict}
use Rattle.element.specs.Private.{shares}
use Rattle.stretch.specs.Private.{start_of, register_bit, bits_of, touch_of, clashes}
use Rattle.element.proofs.Shared.{shares_or, shares_none, or_shares, powers_share}
use Rattle.machine.proofs.Effects.{Known, AllKnown}
use Rattle.stretch.proofs.Known.{own_bit, known_word}

-- a register's bit is among a list's bits exactly when the list holds the register
pub bit_held : (r : Register) (ss : List Register) → Known r → AllKnown ss → shares (register_bit r) (bits_of ss) ≡ holds same_register r ss
unfolding bits_of register_bit holds
bit_held r [] h k = shares_none (register_bit r)
bit_held r (s ∷ ss) h k =
    or_shares (register_bit r) (register_bit s) (bits_of ss)
    ∙ ap₂ (λ (x y : Bool). x || y) (powers_share (start_of r.bank + r.at) (start_of s.bank + s.at) ∙ own_bit r s h k.0) (bit_held r ss h k.1)

pub bits_meet : (rs ss : List Register) → AllKnown rs → AllKnown ss → shares (bits_of rs) (bits_of ss) ≡ meet same_register rs ss
unfolding bits_of meet
bits_meet [] ss h k = refl
bits_meet (r ∷ rs) ss h k =
    shares_or (register_bit r) (bits_of rs) (bits_of ss) ∙ ap₂ (λ (x y : Bool). x || y) (bit_held r ss h.0 k) (bits_meet rs ss h.1 k)

-- ---- a list in two parts
or_exchange : (a b c d : Bool) → (a || b) || (c || d) ≡ (a || c) || (b || d)
or_exchange true b c d = refl
or_exchange false true true d = refl
or_exchange false true false d = refl
or_exchange false false c d = refl

module _ {R : Type 0} (same : R → R → Bool) where
  holds_parts : (r : R) (ss ts : List R) → holds same r (ss ++ ts) ≡ holds same r ss || holds same r ts
  unfolding holds
  holds_parts r [] ts = refl
  holds_parts r (s ∷ ss) ts = ap (λ (x : Bool). same r s || x) (holds_parts r ss ts) ∙ sym (or_assoc (same r s) (holds same r ss) (holds same r ts))

  meet_parts : (rs ss ts : List R) → meet same rs (ss ++ ts) ≡ meet same rs ss || meet same rs ts
  unfolding meet
  meet_parts [] ss ts = refl
  meet_parts (r ∷ rs) ss ts =
      ap₂ (λ (x y : Bool). x || y) (holds_parts r ss ts) (meet_parts rs ss ts) ∙ or_exchange (holds same r ss) (holds same r ts) (meet same rs ss) (meet same rs ts)

-- ---- words
pub clash_is_conflict : (s : Setting) (v w : ℕ) → clashes (touch_of s v) (touch_of s w) ≡ conflict s v w
unfolding conflicting
clash_is_conflict s v w = ap₂ (λ (x y : Bool). x || y) (one_way v w) (one_way w v)
  where
    one_way : (v w : ℕ) → shares (touch_of s v).writes (touch_of s w).touched ≡ meet same_register (writes s v) (reads s w ++ writes s w)
    one_way v w =
        or_shares (bits_of (writes s v)) (bits_of (reads s w)) (bits_of (writes s w))
        ∙ ap₂ (λ (x y : Bool). x || y) (bits_meet (writes s v) (reads s w) (known_word s v).1 (known_word s w).0) (bits_meet (writes s v) (writes s w) (known_word s v).1 (known_word s w).1)
        ∙ sym (meet_parts same_register (writes s v) (reads s w) (writes s w))
