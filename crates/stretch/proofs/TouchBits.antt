-- A register's bit, by cases on its bank; and the bits of a list of registers, gathered from its front: what is gathered, with the bits of the rest, is all of them.
use Rattle.std.proofs.Common.{◌≡◌, ℕ, ◌+◌, ◌-◌, ◌*◌, ◌%◌, ◌^◌, ◌<◌, ◌≤◌, List, ◌∷◌, map, length, get_or, drop, sym, ◌∙◌, ap, subst, add-one, arith}
use Rattle.std.proofs.Math.ListN.{drop_of_length-le}
use Rattle.std.proofs.Math.Seq.{drop-cons}
use Rattle.std.proofs.lemmas.Nat.{one_shl}
use Rattle.std.proofs.lemmas.Nat.Bits.{bit_at_or, same_from_bits}
use Rattle.std.specs.Int.Bits.{bit_or, or_zero_r}
use Rattle.stretch.specs.Private.{register_as, IsThere, AllThere, register_bit, bits_of}
use Rattle.stretch.specs.declared.touch.Register.{Register}
use Rattle.stretch.specs.declared.touch.Register.TheVariants.{Vector, Predicate, Table, Index}

-- ---- a register
-- its place among the bits, as the code has it
abbrev pub place_of : Register → ℕ
place_of (Vector k) = k
place_of (Predicate k) = 32 + k
place_of Table = 48
place_of (Index k) = 37 + k

pow_is : {m n : ℕ} → m ≡ n → 2 ^ m ≡ 2 ^ n
pow_is e = ap (λ k. 2 ^ k) e

pub one_bit : (r : Register) (p : ℕ) → IsThere r → p ≡ place_of r → 1 * 2 ^ p % 2 ^ 64 ≡ register_bit (register_as r)
unfolding register_bit
one_bit (Vector k) p h e = let q : p ≡ 0 + k = omega arith in one_shl p 64 (omega arith) ∙ pow_is q
one_bit (Predicate k) p h e = one_shl p 64 (omega arith) ∙ pow_is e
one_bit Table p h e = one_shl p 64 (omega arith) ∙ pow_is e
one_bit (Index k) p h e = let q : p ≡ 49 + (k - 12) = omega arith in one_shl p 64 (omega arith) ∙ pow_is q

-- ---- a list of registers
or_assoc : (a b c : ℕ) → bit_or (bit_or a b) c ≡ bit_or a (bit_or b c)
or_assoc a b c = same_from_bits _ _ (λ i. simp bit_at_or (omega arith))

module _ (rs : List Register) (i : ℕ) (d : Register) (h : i < length rs) where
  at_front : drop i rs ≡ get_or rs i d ∷ drop (i + 1) rs
  at_front = rw (add-one i) (drop-cons rs i d h)

  pub first_there : AllThere (drop i rs) → IsThere (get_or rs i d) × AllThere (drop (i + 1) rs)
  first_there a = subst AllThere at_front a

  pub bits_more : (x : ℕ) → bit_or (bit_or x (register_bit (register_as (get_or rs i d)))) (bits_of (map register_as (drop (i + 1) rs))) ≡ bit_or x (bits_of (map register_as (drop i rs)))
  unfolding bits_of
  bits_more x = or_assoc x _ _ ∙ ap (λ (xs : List Register). bit_or x (bits_of (map register_as xs))) (sym at_front)

pub bits_done : (rs : List Register) (i x : ℕ) → length rs ≤ i → bit_or x (bits_of (map register_as (drop i rs))) ≡ x
unfolding bits_of
bits_done rs i x h = ap (λ (xs : List Register). bit_or x (bits_of (map register_as xs))) (drop_of_length-le rs h) ∙ or_zero_r x
