-- A step answers 0 to 6 and a run one of these or 8: no need of an instruction has a greater number; a word that is not read has 1 or 3; a run answers as a word or as what comes before any.
use mathlib.Core.Path.{◌≡◌, refl, sym, subst}
use mathlib.Core.Bool.{Bool, true, false}
use mathlib.Core.Logic.{◌⊎◌, inl, inr}
use mathlib.Core.List.{List, [], ◌∷◌}
use Prim.Native.Nat.{ℕ, zero, suc, ◌≤◌}
use native.Mathlib.Omega.{arith}
use lib.Dec.{T, leb}
use lib.ListN.{length}
use borrow.Author.Tests.{leb-true}
use Rattle.setting.specs.Allowed.{allowed_of}
use Rattle.setting.specs.declared.Setting.{Setting}
use Rattle.logic.specs.Pick.{pick}
use Rattle.element.proofs.Below.{both, is_true}
use Rattle.order.specs.Steps.{Ended, steps}
use Rattle.encoding.specs.Layout.{fields_of}
use Rattle.encoding.specs.Rows.{Row, rows, row_matches}
use Rattle.encoding.specs.Decode.{first_of, decode_of}
use Rattle.encoding.proofs.Apart.{decide}
use Rattle.machine.specs.Machine.{Machine, Flags, flags_of}
use Rattle.machine.specs.Needs.{Need, first_failed}
use Rattle.machine.specs.Effects.{effect_of}
use Rattle.machine.specs.Step.{sized, verdict, refusal_of, exec_of, after, step_of}
use Rattle.machine.specs.Run.{refused_before, run_of}
use Rattle.machine.specs.Claims.{StepAnswers, RunAnswers}
use Rattle.machine.proofs.Effects.{at_most_six, fine}
use Rattle.machine.proofs.Runs.{run_not_begun, run_begun}

-- ---- needs with numbers of at most 6
either : (b : Bool) (x y : ℕ) → x ≤ 6 → y ≤ 6 → pick b x y ≤ 6
either true x y h k = h
either false x y h k = k

failed_small : (ns : List Need) → T (at_most_six ns) → first_failed ns ≤ 6
failed_small [] t = omega arith
failed_small (n ∷ ns) t =
    let p = both (leb n.number 6) (at_most_six ns) t in
    either n.holds (first_failed ns) n.number (failed_small ns p.1) (leb-true n.number 6 (is_true (leb n.number 6) p.0))

-- ---- a word
first_small : (s : Setting) (f : Flags) (rs : List Row) (w : ℕ) → verdict s f (first_of rs s.features w) ≤ 6
first_small s f [] w = omega arith
first_small s f (r ∷ rs) w =
    let i = r.reading (fields_of r.layout w) in
    decide (row_matches r s.features w) (λ y. rw y (failed_small ((effect_of i).needs s f) ((fine i).refused_small s f))) (λ n. rw n (first_small s f rs w))

refusal_small : (s : Setting) (w : ℕ) (m : Machine) → refusal_of s w m ≤ 6
unfolding refusal_of decode_of
refusal_small s w m =
    decide (allowed_of s) (λ a. rw a (either (sized m) _ 2 (first_small s (flags_of m) rows w) (omega arith))) (λ a. rw a (omega arith))

pub step_answers : StepAnswers
unfolding step_of
step_answers s w m = go (refusal_of s w m) (refusal_small s w m)
  where
    go : (k : ℕ) → k ≤ 6 → (after k s w m).number ≤ 6
    go zero h = h
    go (suc k) h = h

-- ---- a stretch
words_small : (s : Setting) (words : List ℕ) (n : ℕ) (m : Machine) → (steps (refusal_of s) (exec_of s) words n m).answer ≤ 6
unfolding steps
words_small s [] n m = omega arith
words_small s (w ∷ ws) n m = go (refusal_of s w m) refl (words_small s ws (suc n) (exec_of s w m))
  where
    go : (k : ℕ) → refusal_of s w m ≡ k → (steps (refusal_of s) (exec_of s) ws (suc n) (exec_of s w m)).answer ≤ 6 → (steps (refusal_of s) (exec_of s) (w ∷ ws) n m).answer ≤ 6
    go zero r more = rw (r, steps) more
    go (suc k) r more = rw (r, steps) (subst (λ (x : ℕ). x ≤ 6) r (refusal_small s w m))

before_small : (s : Setting) (words : List ℕ) (m : Machine) → (refused_before s words m ≤ 6) ⊎ (refused_before s words m ≡ 8)
before_small s words m =
    decide (allowed_of s)
    (λ a. decide (sized m)
    (λ h. decide (leb (length words) 256) (λ l. inl (rw (a, h, l) (omega arith))) (λ l. inr (rw (a, h, l))))
    (λ h. inl (rw (a, h) (omega arith))))
    (λ a. inl (rw a (omega arith)))

pub run_answers : RunAnswers
run_answers s words m = go (refused_before s words m) refl (before_small s words m)
  where
    go : (k : ℕ) → refused_before s words m ≡ k → (k ≤ 6) ⊎ (k ≡ 8) → ((run_of s words m).answer ≤ 6) ⊎ ((run_of s words m).answer ≡ 8)
    go zero r h = inl (subst (λ (e : Ended Machine). e.answer ≤ 6) (run_begun s words m (sym r)) (words_small s words 0 m))
    go (suc k) r h =
        subst (λ (e : Ended Machine). (e.answer ≤ 6) ⊎ (e.answer ≡ 8)) (run_not_begun s words m (suc k) (sym r) (λ e. omega arith)) h
