-- A step and a run move PC once for each word done, and no other scalar: no word writes an index register, and words follow by induction.
use mathlib.Core.Path.{◌≡◌, refl, sym, ap, ◌∙◌}
use mathlib.Core.List.{List, [], ◌∷◌}
use Prim.Native.Nat.{ℕ, zero, suc}
use Rattle.setting.specs.Numbers.{Outcome, accept, refuse, number_of}
use Rattle.setting.specs.declared.Setting.{Setting}
use Rattle.order.specs.Steps.{Ended, steps}
use Rattle.order.specs.Touch.{perform, puts}
use Rattle.encoding.specs.Decode.{decode_of}
use Rattle.encoding.specs.declared.Instruction.{Instruction}
use Rattle.encoding.proofs.Round.{read_in_range}
use Rattle.machine.specs.Machine.{Machine, scalars_of, next, advanced}
use Rattle.machine.specs.Step.{Step, refusal_of, exec_of, after, step_of, step_as, stepped_as}
use Rattle.machine.specs.Run.{refused_before, begun, run_of, run_as, ran_as, moved_on}
use Rattle.machine.specs.Claims.{RunMovesPc}
use Rattle.machine.specs.declared.Scalars.{Scalars}
use Rattle.machine.specs.declared.Stepped.{Stepped}
use Rattle.machine.specs.declared.Ran.{Ran}
use Rattle.machine.proofs.Effects.{fine}

word_moves : (s : Setting) (w : ℕ) (m : Machine) → (exec_of s w m).scalars ≡ advanced m.scalars
unfolding exec_of perform next puts
word_moves s w m = go (decode_of s w) refl
  where
    go : (o : Outcome Instruction) → decode_of s w ≡ o → (exec_of s w m).scalars ≡ advanced m.scalars
    go (accept i) e = rw e (ap advanced ((fine i).contents_only (read_in_range s i w e) s.vl _ m))
    go (refuse n) e = rw e

one_more : (s : Setting) (c : Scalars) (w n : ℕ) (m : Machine) → m.scalars ≡ moved_on n c → (exec_of s w m).scalars ≡ moved_on (suc n) c
unfolding moved_on
one_more s c w n m e = word_moves s w m ∙ ap advanced e

words_move : (s : Setting) (c : Scalars) (words : List ℕ) (n : ℕ) (m : Machine) → m.scalars ≡ moved_on n c
    → (steps (refusal_of s) (exec_of s) words n m).left.scalars ≡ moved_on (steps (refusal_of s) (exec_of s) words n m).done c
unfolding steps
words_move s c [] n m e = e
words_move s c (w ∷ ws) n m e = go (refusal_of s w m) refl (λ k. words_move s c ws (suc n) (exec_of s w m) k)
  where
    go : (k : ℕ) → refusal_of s w m ≡ k → ((exec_of s w m).scalars ≡ moved_on (suc n) c → (steps (refusal_of s) (exec_of s) ws (suc n) (exec_of s w m)).left.scalars ≡ moved_on (steps (refusal_of s) (exec_of s) ws (suc n) (exec_of s w m)).done c)
        → (steps (refusal_of s) (exec_of s) (w ∷ ws) n m).left.scalars ≡ moved_on (steps (refusal_of s) (exec_of s) (w ∷ ws) n m).done c
    go zero r more = rw (r, steps) (more (one_more s c w n m e))
    go (suc k) r more = rw (r, steps) e

pub run_moves_pc : RunMovesPc
unfolding run_of moved_on
run_moves_pc s words m = go (refused_before s words m) refl
  where
    go : (k : ℕ) → refused_before s words m ≡ k → (begun k s words m).left.scalars ≡ moved_on (begun k s words m).done m.scalars
    go zero r = words_move s m.scalars words 0 m refl
    go (suc k) r = refl

-- the other scalars stay
abbrev pub with_pc : ℕ → Scalars → Scalars
with_pc x c = scalars_of c.w12 c.w13 c.w14 c.w15 x c.v c.s c.t

moved_on_keeps : (n : ℕ) (c : Scalars) → moved_on n c ≡ with_pc (moved_on n c).pc c
unfolding moved_on
moved_on_keeps zero c = refl
moved_on_keeps (suc n) c = ap advanced (moved_on_keeps n c)

-- what keeps them, said of what equals it
by_pc : (c : Scalars) {x y : Scalars} → x ≡ y → y ≡ with_pc y.pc c → x ≡ with_pc x.pc c
by_pc c f k = f ∙ k ∙ ap (λ (v : Scalars). with_pc v.pc c) (sym f)

step_keeps : (s : Setting) (w : ℕ) (m : Machine) → (step_of s w m).left.scalars ≡ with_pc (step_of s w m).left.scalars.pc m.scalars
unfolding step_of
step_keeps s w m = go (refusal_of s w m)
  where
    go : (k : ℕ) → (after k s w m).left.scalars ≡ with_pc (after k s w m).left.scalars.pc m.scalars
    go zero = by_pc m.scalars (word_moves s w m) refl
    go (suc k) = refl

-- so whoever has the other scalars needs only PC of what `step` answers
pub step_pc_alone : (s : Setting) (w : ℕ) (z p zt : List ℕ) (m : Machine) (r : Stepped) → stepped_as r z p zt ≡ step_of s w m
    → step_as (number_of r.answer) z p zt (with_pc r.scalars.pc m.scalars) ≡ step_of s w m
step_pc_alone s w z p zt m r e = ap (λ (c : Scalars). step_as (number_of r.answer) z p zt c) (sym (by_pc m.scalars (ap (λ (x : Step). x.left.scalars) e) (step_keeps s w m))) ∙ e

run_keeps : (s : Setting) (words : List ℕ) (m : Machine) → (run_of s words m).left.scalars ≡ with_pc (run_of s words m).left.scalars.pc m.scalars
run_keeps s words m =
    by_pc m.scalars (run_moves_pc s words m) (moved_on_keeps (run_of s words m).done m.scalars)

-- and of what `run` answers
pub pc_alone : (s : Setting) (words z p zt : List ℕ) (m : Machine) (r : Ran) (n : ℕ) → n ≡ number_of r.answer → ran_as r z p zt ≡ run_of s words m
    → run_as n r.done z p zt (with_pc r.scalars.pc m.scalars) ≡ run_of s words m
pc_alone s words z p zt m r n q e =
    let k = by_pc m.scalars (ap (λ (x : Ended Machine). x.left.scalars) e) (run_keeps s words m) in
    ap (λ (x : ℕ). run_as x r.done z p zt (with_pc r.scalars.pc m.scalars)) q
    ∙ ap (λ (c : Scalars). run_as (number_of r.answer) r.done z p zt c) (sym k)
    ∙ e
