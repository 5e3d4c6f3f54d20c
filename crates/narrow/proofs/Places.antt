-- What the loops share over the widths and the classes: an element is in its class what it is by the word's bits, and where T puts its result.
use mathlib.Core.Path.{◌≡◌, ◌∙◌}
use mathlib.Core.Bool.{Bool}
use mathlib.Core.Logic.{⊎_elim}
use mathlib.Core.List.{List, ◌++◌}
use Prim.Native.Nat.{ℕ, ◌*◌, ◌%◌, ◌^◌, ◌≤◌}
use native.Mathlib.Omega.{arith}
use lib.ListN.{drop}
use lib.Seq.{drop_at}
use Rattle.element.specs.Contents.{elem, fill}
use Rattle.element.proofs.Filling.{fill_length}
use Rattle.part.specs.Private.{Width}
use Rattle.narrowing.specs.Narrowing.{Form, form}
use Rattle.narrowing.specs.Points.{narrowed}
use Rattle.narrowing.specs.Registers.{placed, element}
use Rattle.narrow.proofs.Computed.{one_shl}

width_le : {w : ℕ} → Width w → (2 ≤ w) × (w ≤ 8)
width_le h = ⊎_elim (λ e. (omega arith, omega arith)) (⊎_elim (λ e. (omega arith, omega arith)) (λ e. (omega arith, omega arith))) h

-- ---- placing

pub m_is : {w : ℕ} → Width w → (1 * 2 ^ (4 * w)) % 2 ^ 64 ≡ 2 ^ (4 * w)
m_is {w} h = let l = width_le h in one_shl (4 * w) (omega arith)

-- ---- one turn of the loops

-- element e of what is made of s and o
abbrev pub elements_in : List ℕ → List ℕ → ℕ → Bool → Bool → Bool → Bool → ℕ → ℕ → ℕ
elements_in s o w op u r t shift e = element (form op u) r t (4 * w) shift (elem w e s) (elem w e o)

pub made : (f : Form) (r t : Bool) (s k : ℕ) {v b x x' y y' : ℕ} → v ≡ placed t s b y → b ≡ narrowed f r s k x → x ≡ x' → y ≡ y' → v ≡ element f r t s k x' y'
unfolding element
made f r t s k e d a c = e ∙ rw (d, a, c)

-- the element of the old list
pub old : (f : ℕ → ℕ) (w i : ℕ) (o₀ o : List ℕ) → o ≡ fill f w i ++ drop (i * w) o₀ → elem w i o ≡ elem w i o₀
unfolding elem
old f w i o₀ o e = rw (e, drop_at (fill f w i) (drop (i * w) o₀) (i * w) (fill_length f w i))
