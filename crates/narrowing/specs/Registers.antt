-- Document 02, request 1: what a narrowing word makes of a register's elements, and where T has it put them.
use Rattle.std.specs.Prelude.{Bool, true, false, List, ℕ, ◌+◌, ◌*◌, ◌/◌, ◌%◌, ◌^◌}
use Rattle.element.specs.Contents.{elem, fill}
use Rattle.narrowing.specs.Narrowing.{Form, value, stored}

-- T clear: v in the even element of s bits, 0 in the odd one; T set: v in the odd one, and the even one of y, the old element of Zd, stays
unfoldable pub placed : Bool → ℕ → ℕ → ℕ → ℕ
placed false s v y = v
placed true s v y = y % 2 ^ s + 2 ^ s * v

-- what becomes of the element x of Zn and the old element y of Zd, both of 2s bits
unfoldable pub element : Form → Bool → Bool → ℕ → ℕ → ℕ → ℕ → ℕ
element f r t s shift x y = placed t s (stored f r s shift (value f s x)) y

-- Zd's new contents from those of Zn and Zd; an element of 2s bits has s / 4 bytes
unfoldable pub narrow_of : Form → Bool → Bool → ℕ → ℕ → ℕ → List ℕ → List ℕ → List ℕ
narrow_of f r t s shift vl zn zd = fill (λ e. element f r t s shift (elem (s / 4) e zn) (elem (s / 4) e zd)) (s / 4) (vl / (2 * s))
