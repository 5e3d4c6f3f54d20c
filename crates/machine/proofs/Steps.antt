-- What a step is in each case that the code meets, over plain numbers and lists: what the proofs of the words and of `step` cite.
use mathlib.Core.Path.{◌≡◌, refl, sym, ap, ◌∙◌}
use mathlib.Core.Bool.{true, ◌&&◌}
use mathlib.Core.List.{List, [], ◌∷◌}
use Prim.Native.Nat.{ℕ, zero, suc}
use native.Mathlib.Omega.{arith}
use lib.Dec.{eqb, leb}
use lib.ListN.{length}
use borrow.Author.Tests.{eqb-true}
use Rattle.setting.specs.Allowed.{length_allowed, features_allowed, allowed_of}
use Rattle.setting.specs.Numbers.{Outcome, accept, refuse}
use Rattle.setting.specs.declared.Setting.{Setting}
use Rattle.order.specs.Touch.{perform}
use Rattle.encoding.specs.Rows.{rows}
use Rattle.encoding.specs.Decode.{first_of, decode_of}
use Rattle.encoding.specs.declared.Instruction.{Instruction}
use Rattle.element.specs.Files.{vector_file, predicate_file, table_file}
use Rattle.element.proofs.Tests.{both_yes}
use Rattle.encoding.proofs.Apart.{decide}
use Rattle.encoding.proofs.Round.{read_in_range}
use Rattle.machine.specs.Machine.{Machine, machine, advanced, next, flags_of}
use Rattle.machine.specs.Needs.{need, first_failed}
use Rattle.machine.specs.Effects.{effect_of}
use Rattle.machine.specs.Step.{Step, sized, refusal_of, exec_of, after, step_of}
use Rattle.machine.specs.Private.{Ready, done_of, executed, executed_of, moved_by}
use Rattle.machine.specs.declared.Scalars.{Scalars}

-- ---- an instruction that was read
module _ (s : Setting) (i : Instruction) (z p zt : List ℕ) (c : Scalars) where
  pub refused_for : (n : ℕ) → n ≡ first_failed ((effect_of i).needs s (flags_of (machine z p zt c))) → (n ≡ 0 → ⊥) → ◌≡◌ {A = Step} (record { number = n; left = machine z p zt (moved_by n c) }) (executed_of s i (machine z p zt c))
  unfolding executed_of
  refused_for zero e ne = absurd (ne refl)
  refused_for (suc k) e ne = ap (λ (n : ℕ). executed n s.vl i (machine z p zt c)) e

  pub done_for : (z' p' : List ℕ) → 0 ≡ first_failed ((effect_of i).needs s (flags_of (machine z p zt c))) → machine z' p' zt c ≡ done_of s.vl i (machine z p zt c)
      → ◌≡◌ {A = Step} (record { number = 0; left = machine z' p' zt (advanced c) }) (executed_of s i (machine z p zt c))
  unfolding executed_of next
  done_for z' p' e q = ap (λ (x : Machine). record { number = 0; left = next x }) q ∙ ap (λ (n : ℕ). executed n s.vl i (machine z p zt c)) e

-- ---- a word
module _ (s : Setting) (w : ℕ) (m : Machine) where
  pub step_not_begun : (n : ℕ) → n ≡ first_failed (need 1 (allowed_of s) ∷ need 2 (sized m) ∷ need 8 (leb 1 256) ∷ []) → (n ≡ 0 → ⊥) → ◌≡◌ {A = Step} (record { number = n; left = m }) (step_of s w m)
  unfolding step_of refusal_of
  step_not_begun n e ne =
      decide (allowed_of s)
      (λ a. decide (sized m) (λ h. absurd (ne (rw (a, h) at e))) (λ h. rw (a, h) (ap (λ (x : ℕ). record { number = x; left = m }) (rw (a, h) at e))))
      (λ a. rw a (ap (λ (x : ℕ). record { number = x; left = m }) (rw a at e)))

  module _ (a : allowed_of s ≡ true) where
    -- under an allowed setting a word is read by the features alone
    read_is : (o : Outcome Instruction) → first_of rows s.features w ≡ o → decode_of s w ≡ o
    unfolding decode_of
    read_is o e = rw a e

    module _ (h : sized m ≡ true) where
      pub step_undefined : first_of rows s.features w ≡ refuse 3 → ◌≡◌ {A = Step} (record { number = 3; left = m }) (step_of s w m)
      unfolding step_of refusal_of
      step_undefined e = rw (a, h, read_is (refuse 3) e)

      exec_is : (i : Instruction) → decode_of s w ≡ accept i → exec_of s w m ≡ next (done_of s.vl i m)
      unfolding exec_of perform done_of
      exec_is i e = rw e

      after_is : (i : Instruction) → decode_of s w ≡ accept i → (k : ℕ) → executed k s.vl i m ≡ after k s w m
      after_is i e zero = ap (λ (x : Machine). record { number = 0; left = x }) (sym (exec_is i e))
      after_is i e (suc k) = refl

      pub step_executes : (i : Instruction) → first_of rows s.features w ≡ accept i → executed_of s i m ≡ step_of s w m
      unfolding step_of refusal_of executed_of
      step_executes i e =
          let r : decode_of s w ≡ accept i = read_is (accept i) e in
          let q : first_failed ((effect_of i).needs s (flags_of m)) ≡ refusal_of s w m = rw (a, h, r) in
          after_is i r (first_failed ((effect_of i).needs s (flags_of m))) ∙ ap (λ (n : ℕ). after n s w m) q

      pub step_ready : (i : Instruction) → first_of rows s.features w ≡ accept i → Ready (length m.z) (length m.p) (length m.zt) s.vl i
      unfolding allowed_of
      step_ready i e =
          let b = both_yes (eqb (length m.z) vector_file && eqb (length m.p) predicate_file) (eqb (length m.zt) table_file) h in
          let c = both_yes (eqb (length m.z) vector_file) (eqb (length m.p) predicate_file) b.0 in
          record {
            vectors = eqb-true (length m.z) vector_file c.0;
            predicates = eqb-true (length m.p) predicate_file c.1;
            table = eqb-true (length m.zt) table_file b.1;
            length = (both_yes (length_allowed s.vl) (features_allowed s.features) a).0;
            range = read_in_range s i w (read_is (accept i) e);
          }

-- ---- the scalars after a word
pub moved_done : (n : ℕ) (c : Scalars) → n ≡ 0 → moved_by n c ≡ advanced c
moved_done zero c e = refl
moved_done (suc k) c e = absurd (omega arith)

pub moved_not : (n : ℕ) (c : Scalars) → (n ≡ 0 → ⊥) → moved_by n c ≡ c
moved_not zero c ne = absurd (ne refl)
moved_not (suc k) c ne = refl
