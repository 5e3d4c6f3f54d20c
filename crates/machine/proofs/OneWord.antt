-- The run of one word is the step: both are refused alike before the word, and then both hang on what the word is refused for.
use mathlib.Core.Path.{◌≡◌, refl, sym, ap, ◌∙◌}
use mathlib.Core.List.{List, [], ◌∷◌}
use Prim.Native.Nat.{ℕ, zero, suc}
use native.Mathlib.Omega.{arith}
use Rattle.setting.specs.declared.Setting.{Setting}
use Rattle.order.specs.Steps.{Ended, steps}
use Rattle.machine.specs.Machine.{Machine}
use Rattle.machine.specs.Step.{refusal_of, exec_of, after, step_of, step_as}
use Rattle.machine.specs.Run.{refused_before, run_of, ran_once, run_as}
use Rattle.machine.specs.Claims.{RunOfOneWord}
use Rattle.machine.specs.declared.Scalars.{Scalars}
use Rattle.machine.proofs.Steps.{step_not_begun}
use Rattle.machine.proofs.Runs.{run_not_begun, run_begun}

module _ (s : Setting) (w : ℕ) (m : Machine) where
  begun_once : steps (refusal_of s) (exec_of s) (w ∷ []) 0 m ≡ ran_once (step_of s w m)
  unfolding steps step_of
  begun_once = go (refusal_of s w m) refl
    where
      go : (k : ℕ) → refusal_of s w m ≡ k → steps (refusal_of s) (exec_of s) (w ∷ []) 0 m ≡ ran_once (after (refusal_of s w m) s w m)
      go zero r = rw (r, steps)
      go (suc k) r = rw (r, steps)

pub run_of_one_word : RunOfOneWord
run_of_one_word s w m = go (refused_before s (w ∷ []) m) refl
  where
    go : (k : ℕ) → refused_before s (w ∷ []) m ≡ k → run_of s (w ∷ []) m ≡ ran_once (step_of s w m)
    go zero r = sym (run_begun s (w ∷ []) m (sym r)) ∙ begun_once s w m
    go (suc k) r =
        sym (run_not_begun s (w ∷ []) m (suc k) (sym r) (λ e. omega arith)) ∙ ap ran_once (step_not_begun s w m (suc k) (sym r) (λ e. omega arith))

-- so what a run of one word leaves is what a step does
pub step_of_run : (s : Setting) (w : ℕ) (m : Machine) (a n : ℕ) (z p zt : List ℕ) (c : Scalars) → run_as a n z p zt c ≡ run_of s (w ∷ []) m → step_as a z p zt c ≡ step_of s w m
step_of_run s w m a n z p zt c e = ap (λ (x : Ended Machine). record { number = x.answer; left = x.left }) (e ∙ run_of_one_word s w m)
