-- Document 01, "What a word touches", demand 3; and what else `claims` promises of a run, of conflict and of permission.
use Rattle.std.specs.Prelude.{◌≡◌, true, false, List, ℕ, ◌<◌, length}
use Rattle.setting.specs.Allowed.{allowed_of}
use Rattle.setting.specs.Numbers.{accept}
use Rattle.setting.specs.declared.Setting.{Setting}
use Rattle.order.specs.Rearranged.{Rearrangement, Permitted, rearranged}
use Rattle.machine.specs.Machine.{Machine}
use Rattle.machine.specs.Step.{sized, writes}
use Rattle.machine.specs.Run.{undone, run_of}
use Rattle.stretch.specs.Conflict.{conflict, is_read, conflict_of}
use Rattle.stretch.specs.Permission.{permitted_of, Permission}

-- for every stretch accepted throughout and every permitted rearrangement of it, both runs answer 0 with the same number of words done, and leave every byte of the three files and every scalar equal
abbrev pub Orders : Type 0
Orders =
    (s : Setting) (words order : List ℕ) (m : Machine) → (run_of s words m).answer ≡ 0
    → Rearrangement (length words) order → Permitted (conflict s) words order → run_of s (rearranged words order) m ≡ run_of s words m

-- 1, 2, 8 before any word, in this order, also for an empty stretch
pub record BeforeAnyWord (s : Setting) (words : List ℕ) (m : Machine) : Type 0 where
  pub not_allowed : allowed_of s ≡ false → run_of s words m ≡ undone 1 m
  pub wrong_length : allowed_of s ≡ true → sized m ≡ false → run_of s words m ≡ undone 2 m
  pub too_many : allowed_of s ≡ true → sized m ≡ true → 256 < length words → run_of s words m ≡ undone 8 m

-- where no word is refused, the number of words done is the stretch's length
abbrev pub WholeDone : Type 0
WholeDone = (s : Setting) (words : List ℕ) (m : Machine) → (run_of s words m).answer ≡ 0 → (run_of s words m).done ≡ length words

-- two copies of one word that writes something conflict
abbrev pub CopiesConflict : Type 0
CopiesConflict = (s : Setting) (w : ℕ) → 0 < length (writes s w) → conflict_of s w w ≡ accept true

-- every word that can be read writes something
abbrev pub EachWrites : Type 0
EachWrites = (s : Setting) (w : ℕ) → is_read s w ≡ true → 0 < length (writes s w)

-- the answer is yes exactly when the question is not refused and the order is a permitted rearrangement
abbrev pub PermittedExactly : Type 0
PermittedExactly =
    (s : Setting) (words order : List ℕ)
    → (permitted_of s words order ≡ accept true → Permission s words order) × (Permission s words order → permitted_of s words order ≡ accept true)

pub record Claims : Type 0 where
  pub orders : Orders
  pub whole : WholeDone
  pub before : (s : Setting) (words : List ℕ) (m : Machine) → BeforeAnyWord s words m
  pub copies : CopiesConflict
  pub each_writes : EachWrites
  pub permitted : PermittedExactly
