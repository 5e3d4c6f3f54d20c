-- What a run is in each case that the code meets: what is left of the stretch, stepped from where the loop stands, ends as the whole does.
use mathlib.Core.Path.{◌≡◌, refl, sym, ap, ◌∙◌}
use mathlib.Core.List.{List, ◌∷◌}
use Prim.Native.Nat.{ℕ, zero, suc, ◌+◌, ◌*◌, ◌%◌, ◌^◌, ◌<◌}
use native.Mathlib.Numerals.{add-one}
use native.Mathlib.Omega.{arith}
use lib.ListN.{length, get_or, drop, drop_of_length-le}
use lib.Seq.{drop-cons}
use Rattle.setting.specs.declared.Setting.{Setting}
use Rattle.order.specs.Steps.{Ended, steps}
use Rattle.machine.specs.Machine.{Machine, machine, advanced}
use Rattle.machine.specs.Step.{Step, refusal_of, exec_of, step_of}
use Rattle.machine.specs.Run.{refused_before, undone, begun, run_of, moved_on}
use Rattle.machine.specs.Private.{Checked, moved_by}
use Rattle.machine.specs.declared.Scalars.{Scalars}
use Rattle.machine.proofs.Steps.{moved_done, moved_not}

-- ---- PC after some words
pub moved_on_once : (n : ℕ) (c d : Scalars) → d ≡ moved_on n c → advanced d ≡ moved_on (n + 1) c
unfolding moved_on
moved_on_once n c d e = rw (add-one, e)

pub moved_on_none : (n : ℕ) (c : Scalars) → n ≡ 0 → c ≡ moved_on n c
unfolding moved_on
moved_on_none zero c e = refl
moved_on_none (suc n) c e = absurd (omega arith)

pub moved_on_pc : (n : ℕ) (c : Scalars) → (n ≡ 0 → ⊥) → ◌≡◌ {A = Scalars} (record { w12 = c.w12; w13 = c.w13; w14 = c.w14; w15 = c.w15; pc = (c.pc + 4 * n) % 2 ^ 64; v = c.v; s = c.s; t = c.t }) (moved_on n c)
unfolding moved_on
moved_on_pc zero c ne = absurd (ne refl)
moved_on_pc (suc zero) c ne = refl
moved_on_pc (suc (suc n)) c ne =
    let q : (c.pc + 4 * suc (suc n)) % 2 ^ 64 ≡ ((c.pc + 4 * suc n) % 2 ^ 64 + 4) % 2 ^ 64 = omega arith in
    rw q (ap advanced (moved_on_pc (suc n) c (λ e. omega arith)))

-- ---- one word more
module _ (s : Setting) (words : List ℕ) (i a : ℕ) (m m' : Machine) (e : Ended Machine)
    (have : i < length words) (one : ◌≡◌ {A = Step} (record { number = a; left = m' }) (step_of s (get_or words i 0) m))
    (left : steps (refusal_of s) (exec_of s) (drop i words) i m ≡ e) where
  opened : steps (refusal_of s) (exec_of s) (get_or words i 0 ∷ drop (suc i) words) i m ≡ e
  opened = rw (drop-cons words i 0 have) at left

  number_is : (k : ℕ) → refusal_of s (get_or words i 0) m ≡ k → a ≡ k
  unfolding step_of
  number_is zero r = ap (λ (x : Step). x.number) one ∙ rw r
  number_is (suc k) r = ap (λ (x : Step). x.number) one ∙ rw r

  pub stopped : (a ≡ 0 → ⊥) → ◌≡◌ {A = Ended Machine} (record { answer = a; done = i; left = m' }) e
  unfolding steps step_of
  stopped n = go (refusal_of s (get_or words i 0) m) refl
    where
      go : (k : ℕ) → refusal_of s (get_or words i 0) m ≡ k → ◌≡◌ {A = Ended Machine} (record { answer = a; done = i; left = m' }) e
      go zero r = absurd (n (number_is zero r))
      go (suc k) r =
          let t : ◌≡◌ {A = Ended Machine} (record { answer = suc k; done = i; left = m }) e = rw (r, steps) at opened in
          let u : ◌≡◌ {A = Step} (record { number = a; left = m' }) (record { number = suc k; left = m }) = rw r at one in
          ap (λ (x : Step). record { answer = x.number; done = i; left = x.left }) u ∙ t

  pub went_on : a ≡ 0 → steps (refusal_of s) (exec_of s) (drop (i + 1) words) (i + 1) m' ≡ e
  unfolding steps step_of
  went_on z =
      let r : refusal_of s (get_or words i 0) m ≡ 0 = sym (number_is (refusal_of s (get_or words i 0) m) refl) ∙ z in
      let t : steps (refusal_of s) (exec_of s) (drop (suc i) words) (suc i) (exec_of s (get_or words i 0) m) ≡ e = rw (r, steps) at opened in
      let u : m' ≡ exec_of s (get_or words i 0) m = ap (λ (x : Step). x.left) one ∙ rw r in
      rw (add-one, u) t

-- the same, where PC is moved by the caller
module _ (s : Setting) (words : List ℕ) (i a : ℕ) (m : Machine) (z p zt : List ℕ) (c : Scalars) (e : Ended Machine)
    (have : i < length words) (one : ◌≡◌ {A = Step} (record { number = a; left = machine z p zt (moved_by a c) }) (step_of s (get_or words i 0) m))
    (left : steps (refusal_of s) (exec_of s) (drop i words) i m ≡ e) where
  pub stopped_unmoved : (d : Scalars) → c ≡ moved_on i d → (a ≡ 0 → ⊥) → ◌≡◌ {A = Ended Machine} (record { answer = a; done = i; left = machine z p zt (moved_on i d) }) e
  stopped_unmoved d q n =
      ap (λ (x : Scalars). record { answer = a; done = i; left = machine z p zt x }) (sym q ∙ sym (moved_not a c n)) ∙ stopped s words i a m (machine z p zt (moved_by a c)) e have one left n

  pub went_on_moved : (d : Scalars) → d ≡ advanced c → a ≡ 0 → steps (refusal_of s) (exec_of s) (drop (i + 1) words) (i + 1) (machine z p zt d) ≡ e
  went_on_moved d q h =
      ap (λ (x : Scalars). steps (refusal_of s) (exec_of s) (drop (i + 1) words) (i + 1) (machine z p zt x)) (q ∙ sym (moved_done a c h)) ∙ went_on s words i a m (machine z p zt (moved_by a c)) e have one left h

module _ (s : Setting) (words : List ℕ) (i : ℕ) (z p zt : List ℕ) (c d : Scalars) (e : Ended Machine) where
  pub ended : i ≡ length words → c ≡ moved_on i d → steps (refusal_of s) (exec_of s) (drop i words) i (machine z p zt c) ≡ e
      → ◌≡◌ {A = Ended Machine} (record { answer = 0; done = i; left = machine z p zt (moved_on i d) }) e
  unfolding steps
  ended h k q =
      ap (λ (x : Scalars). record { answer = 0; done = i; left = machine z p zt x }) (sym k) ∙ rw (drop_of_length-le words {i = i} (omega arith)) at q

-- ---- before any word
module _ (s : Setting) (words : List ℕ) (m : Machine) where
  pub run_not_begun : (n : ℕ) → n ≡ refused_before s words m → (n ≡ 0 → ⊥) → undone n m ≡ run_of s words m
  unfolding run_of
  run_not_begun zero e ne = absurd (ne refl)
  run_not_begun (suc k) e ne = ap (λ (n : ℕ). begun n s words m) e

  pub run_begun : 0 ≡ refused_before s words m → steps (refusal_of s) (exec_of s) words 0 m ≡ run_of s words m
  unfolding run_of
  run_begun e = ap (λ (n : ℕ). begun n s words m) e

-- ---- the files keep their lengths
pub still_checked : (s : Setting) (z p zt z' p' : List ℕ) (c c' : Scalars) → length z' ≡ length z → length p' ≡ length p → Checked s (machine z p zt c) → Checked s (machine z' p' zt c')
still_checked s z p zt z' p' c c' ez ep k = record { allowed = k.allowed; files = rw (ez, ep) k.files }
