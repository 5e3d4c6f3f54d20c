-- A list of files of which one is changed: what is read of another, and two changes in either order; by induction on the number.
use mathlib.Core.Path.{◌≡◌, refl, ap}
use mathlib.Core.List.{List, [], ◌∷◌}
use Prim.Native.Nat.{ℕ, zero, suc}
use lib.ListN.{length, get_or}
use Rattle.order.specs.Banks.{change}

module _ {A C : Type 0} where
  -- what is read of one file, where another is changed, or this one in what is not read
  pub read_change : (a b : ℕ) (f : A → A) (k : A → C) (d : A) (l : List A) → (a ≡ b → (x : A) → k (f x) ≡ k x) → k (get_or (change b f l) a d) ≡ k (get_or l a d)
  read_change a b f k d [] h = refl
  read_change zero zero f k d (x ∷ xs) h = h refl x
  read_change zero (suc b) f k d (x ∷ xs) h = refl
  read_change (suc a) zero f k d (x ∷ xs) h = refl
  read_change (suc a) (suc b) f k d (x ∷ xs) h = read_change a b f k d xs (λ e. h (ap suc e))

module _ {A : Type 0} where
  pub change_comm : (a b : ℕ) (f g : A → A) (l : List A) → (a ≡ b → (x : A) → f (g x) ≡ g (f x)) → change a f (change b g l) ≡ change b g (change a f l)
  change_comm a b f g [] h = refl
  change_comm zero zero f g (x ∷ xs) h = ap (λ (y : A). y ∷ xs) (h refl x)
  change_comm zero (suc b) f g (x ∷ xs) h = refl
  change_comm (suc a) zero f g (x ∷ xs) h = refl
  change_comm (suc a) (suc b) f g (x ∷ xs) h = ap (λ (r : List A). x ∷ r) (change_comm a b f g xs (λ e. h (ap suc e)))

  pub length_change : (b : ℕ) (f : A → A) (l : List A) → length (change b f l) ≡ length l
  length_change b f [] = refl
  length_change zero f (x ∷ xs) = refl
  length_change (suc b) f (x ∷ xs) = ap suc (length_change b f xs)
