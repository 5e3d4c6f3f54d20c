-- Document 01, "What a word touches": whether an order of a stretch's positions is a permitted rearrangement, or 1, 8 or 3, in this order.
use Rattle.std.specs.Prelude.{◌≡◌, Bool, true, ◌&&◌, List, [], ◌∷◌, ℕ, zero, suc, ◌<◌, ◌≤◌, leb, length, get_or}
use Rattle.setting.specs.Allowed.{allowed_of}
use Rattle.setting.specs.Numbers.{Outcome, accept, refuse}
use Rattle.setting.specs.declared.Setting.{Setting}
use Rattle.order.specs.Rearranged.{Rearrangement, Permitted}
use Rattle.logic.specs.Every.{all}
use Rattle.order.specs.Tested.{rearranges, permits}
use Rattle.machine.specs.Needs.{need, first_failed}
use Rattle.stretch.specs.Conflict.{conflict, is_read}

-- every word of the stretch can be read
abbrev pub all_read : Setting → List ℕ → Bool
all_read s words = all (λ i. is_read s (get_or words i 0)) (length words)

-- the number that the question is refused with, or 0
abbrev pub unanswered : Setting → List ℕ → ℕ
unanswered s words = first_failed (need 1 (allowed_of s) ∷ need 8 (leb (length words) 256) ∷ need 3 (all_read s words) ∷ [])

-- the order is a rearrangement of the stretch, and permitted
abbrev pub permitted_by : Setting → List ℕ → List ℕ → Bool
permitted_by s words order = rearranges (length words) order && permits (conflict s) words order

-- the answer, unless a number other than 0 refuses it
abbrev pub unless : {A : Type 0} → ℕ → A → Outcome A
unless zero a = accept a
unless (suc k) a = refuse (suc k)

unfoldable pub permitted_of : Setting → List ℕ → List ℕ → Outcome Bool
permitted_of s words order = unless (unanswered s words) (permitted_by s words order)

-- what the answer yes stands for: the question is not refused, and the order is a rearrangement of the stretch and permitted
pub record Permission (s : Setting) (words order : List ℕ) : Type 0 where
  pub allowed : allowed_of s ≡ true
  pub short : length words ≤ 256
  pub read : (i : ℕ) → i < length words → is_read s (get_or words i 0) ≡ true
  pub rearrangement : Rearrangement (length words) order
  pub permitted : Permitted (conflict s) words order
