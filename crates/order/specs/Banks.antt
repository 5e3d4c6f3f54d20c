-- Registers as slots of banks: a bank is a file, and one of a list of files is changed.
use Rattle.std.specs.Prelude.{Bool, ◌&&◌, List, [], ◌∷◌, ℕ, zero, suc, eqb}

-- a register is a slot of a bank: its number there
pub record Register : Type 0 where
  pub bank : ℕ
  pub at : ℕ

abbrev pub same_register : Register → Register → Bool
same_register r s = eqb r.bank s.bank && eqb r.at s.at

-- the file with number b changed; a number that is no file's changes nothing
abbrev pub change : {A : Type 0} → ℕ → (A → A) → List A → List A
change b f [] = []
change zero f (x ∷ xs) = f x ∷ xs
change (suc b) f (x ∷ xs) = x ∷ change b f xs
