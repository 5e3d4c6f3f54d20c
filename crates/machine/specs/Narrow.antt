-- The narrowing words, whose row is `narrow`: each element rounded, shifted and cut, into the even elements of Zd, or with T into the odd ones.
use Rattle.std.specs.Prelude.{Bool, List, [], ◌∷◌, ℕ}
use Rattle.logic.specs.Pick.{pick}
use Rattle.order.specs.Banks.{Register}
use Rattle.narrowing.specs.Narrowing.{form}
use Rattle.narrowing.specs.Registers.{narrow_of}
use Rattle.machine.specs.Machine.{Z}
use Rattle.machine.specs.Needs.{need}
use Rattle.machine.specs.Effect.{Effect, contents}

-- a T word reads Zd too: its even elements stay
abbrev pub narrow_reads : Bool → ℕ → ℕ → List Register
narrow_reads t zn zd = Z zn ∷ pick t (Z zd ∷ []) []

abbrev pub narrow_effect : Bool → Bool → Bool → Bool → ℕ → ℕ → ℕ → ℕ → Effect
narrow_effect op u r t size shift zn zd = record {
  needs = λ s f. need 4 f.v ∷ [];
  reads = narrow_reads t zn zd;
  writes = Z zd ∷ [];
  gives = λ vl cs. narrow_of (form op u) r t size shift vl (contents cs 0) (contents cs 1) ∷ [];
}
