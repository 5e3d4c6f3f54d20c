-- A run's guards, and behind them demand 3 and that an accepted stretch is done whole: `order`'s theorems about steps, since a guard sees of the words only how many they are.
use mathlib.Core.Path.{◌≡◌, refl, ◌∙◌}
use mathlib.Core.List.{List}
use Prim.Native.Nat.{ℕ, zero, suc}
use native.Mathlib.Nat.{zero-add}
use native.Mathlib.Omega.{arith}
use lib.ListN.{length}
use borrow.Author.Tests.{lt-leb}
use Rattle.setting.specs.Allowed.{allowed_of}
use Rattle.setting.specs.declared.Setting.{Setting}
use Rattle.order.specs.Rearranged.{rearranged}
use Rattle.order.proofs.Positions.{length_rearranged}
use Rattle.order.proofs.Runs.{done_whole}
use Rattle.order.proofs.Reordered.{same_end}
use Rattle.machine.specs.Machine.{Machine}
use Rattle.machine.specs.Step.{refusal_of, exec_of}
use Rattle.machine.specs.Run.{refused_before, begun, run_of}
use Rattle.stretch.specs.Conflict.{conflict}
use Rattle.stretch.specs.Claims.{Orders, BeforeAnyWord, WholeDone}
use Rattle.stretch.proofs.Kept.{words_independent}
use Rattle.stretch.proofs.Passed.{passed}

pub orders : Orders
unfolding run_of
orders s words order m e R C = rw (length_rearranged words order R) (go (refused_before s words m) refl e)
  where
    go : (k : ℕ) → refused_before s words m ≡ k → (begun k s words m).answer ≡ 0 → begun k s (rearranged words order) m ≡ begun k s words m
    go zero h e' = same_end (refusal_of s) (exec_of s) (conflict s) (words_independent s (passed (allowed_of s) _ 0 h).yes) words order m e' R C
    go (suc k) h e' = refl

pub before_any_word : (s : Setting) (words : List ℕ) (m : Machine) → BeforeAnyWord s words m
unfolding run_of
before_any_word s words m = record {
  not_allowed = λ a. rw a;
  wrong_length = λ a h. rw (a, h);
  too_many = λ a h l. rw (a, h, lt-leb);
}

pub whole_done : WholeDone
unfolding run_of
whole_done s words m e = go (refused_before s words m) e
  where
    go : (k : ℕ) → (begun k s words m).answer ≡ 0 → (begun k s words m).done ≡ length words
    go zero e' = done_whole (refusal_of s) (exec_of s) words 0 m e' ∙ zero-add (length words)
    go (suc k) e' = absurd (omega arith)
