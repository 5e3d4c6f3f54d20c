-- A word of a known row leaves what a step does: its answer is its needs', and its file the leaf's, or as it was where it is refused.
use mathlib.Core.Path.{◌≡◌, refl, sym, ap, ◌∙◌}
use mathlib.Core.Bool.{Bool, true, false}
use mathlib.Core.List.{List, [], ◌∷◌}
use Prim.Native.Nat.{ℕ, zero, suc, ◌-◌, ◌≤◌}
use native.Mathlib.Omega.{arith}
use lib.Dec.{eqb}
use lib.ListN.{length, get_or}
use Rattle.setting.specs.Allowed.{has_feature}
use Rattle.setting.specs.Numbers.{Answer, Outcome, accept, refuse, number_of}
use Rattle.setting.specs.declared.Setting.{Setting}
use Rattle.setting.specs.declared.Feature.TheVariants.{Sve2p1}
use Rattle.logic.specs.Pick.{pick}
use Rattle.encoding.specs.Rows.{rows}
use Rattle.encoding.specs.Places.{place_first}
use Rattle.encoding.specs.Decode.{first_of, read_at}
use Rattle.encoding.specs.declared.Instruction.{Instruction}
use Rattle.encoding.specs.declared.Instruction.TheVariants.{Pext, Psel, Luti4c, Luti4s, Narrow}
use Rattle.encoding.proofs.Choice.{read_past, first_is_read}
use Rattle.pext.specs.Pext.{pext_leaves}
use Rattle.psel.specs.Psel.{psel_leaves}
use Rattle.lookup.specs.Calls.{luti4_file}
use Rattle.narrowing.specs.Calls.{narrow_file}
use Rattle.machine.specs.Machine.{Machine, machine, flags_of}
use Rattle.machine.specs.Needs.{need, first_failed, if_done}
use Rattle.machine.specs.Effects.{effect_of}
use Rattle.machine.specs.Step.{Step, step_of, step_as}
use Rattle.machine.specs.Private.{Ready, Known, PredicateWord, VectorWord, TablelessWord, done_of, executed_of, moved_by}
use Rattle.machine.specs.declared.Scalars.{Scalars}
use Rattle.machine.proofs.Steps.{refused_for, done_for, step_executes, step_ready, step_undefined}
use Rattle.machine.proofs.Operations.{pext_done, psel_done, luti4c_done, luti4s_done, narrow_done}

-- ---- what a known row reads is what the word is read as
first_at : (s : Setting) (w k : ℕ) (o : Outcome Instruction) → k ≡ place_first rows s.features w → read_at rows k w ≡ o → first_of rows s.features w ≡ o
first_at s w k o e r = first_is_read rows s.features w ∙ ap (λ (j : ℕ). read_at rows j w) (sym e) ∙ r

pub no_row : (s : Setting) (w k : ℕ) (m : Machine) → Known k s w m → length rows ≤ k → ◌≡◌ {A = Step} (record { number = 3; left = m }) (step_of s w m)
no_row s w k m h l = step_undefined s w m h.checked.allowed h.checked.files (first_at s w k (refuse 3) h.place (read_past rows k w l))

-- ---- on one file or the other, done or refused
module _ (s : Setting) (w k : ℕ) (i : Instruction) (read : read_at rows k w ≡ accept i) (z p zt : List ℕ) (c : Scalars) (known : Known k s w (machine z p zt c)) where
  is_first : first_of rows s.features w ≡ accept i
  is_first = first_at s w k (accept i) known.place read

  pub ready : Ready (length z) (length p) (length zt) s.vl i
  ready = step_ready s w (machine z p zt c) known.checked.allowed known.checked.files i is_first

  executes : executed_of s i (machine z p zt c) ≡ step_of s w (machine z p zt c)
  executes = step_executes s w (machine z p zt c) known.checked.allowed known.checked.files i is_first

  pub on_predicates : (p' done : List ℕ) (n : ℕ) → n ≡ first_failed ((effect_of i).needs s (flags_of (machine z p zt c))) → p' ≡ if_done n done p → machine z done zt c ≡ done_of s.vl i (machine z p zt c)
      → step_as n z p' zt (moved_by n c) ≡ step_of s w (machine z p zt c)
  on_predicates p' done zero a q d = rw q (done_for s i z p zt c z done a d ∙ executes)
  on_predicates p' done (suc n) a q d = rw q (refused_for s i z p zt c (suc n) a (λ e. omega arith) ∙ executes)

  pub on_vectors : (z' done : List ℕ) (n : ℕ) → n ≡ first_failed ((effect_of i).needs s (flags_of (machine z p zt c))) → z' ≡ if_done n done z → machine done p zt c ≡ done_of s.vl i (machine z p zt c)
      → step_as n z' p zt (moved_by n c) ≡ step_of s w (machine z p zt c)
  on_vectors z' done zero a q d = rw q (done_for s i z p zt c done p a d ∙ executes)
  on_vectors z' done (suc n) a q d = rw q (refused_for s i z p zt c (suc n) a (λ e. omega arith) ∙ executes)

-- ---- each form
module _ (s : Setting) (w : ℕ) (c : Scalars) (r : Answer) (p p' : List ℕ) where
  -- by either row of it
  pub pext_word : (k size first portions counter pd : ℕ) → number_of r ≡ first_failed (pick (has_feature s.features Sve2p1) (need 4 c.v) (need 5 c.s) ∷ [])
      → read_at rows k w ≡ accept (Pext size first portions counter pd) → p' ≡ if_done (number_of r) (pext_leaves s.vl size first portions counter pd p) p → PredicateWord k s w c r p p'
  pext_word k size first portions counter pd answer e q z zt known =
      on_predicates s w k _ e z p zt c known p' _ (number_of r) answer q
      (pext_done z p _ zt c s.vl size first portions counter pd (ready s w k _ e z p zt c known) refl)

  pub psel_word : (x size offset index pn pm pd : ℕ) → number_of r ≡ pick c.v 0 4 → read_at rows 2 w ≡ accept (Psel size offset index pn pm pd)
      → x ≡ get_or (c.w12 ∷ c.w13 ∷ c.w14 ∷ c.w15 ∷ []) (index - 12) 0 → p' ≡ if_done (number_of r) (psel_leaves s.vl size x offset pn pm pd p) p → PredicateWord 2 s w c r p p'
  psel_word x size offset index pn pm pd answer e i q z zt known =
      on_predicates s w 2 _ e z p zt c known p' _ (number_of r) answer q
      (psel_done z p _ zt c s.vl size offset index pn pm pd x (ready s w 2 _ e z p zt c known) i refl)

module _ (s : Setting) (w : ℕ) (c : Scalars) (r : Answer) (z z' : List ℕ) where
  -- by either row of it, told apart by the stride
  pub luti4_word : (zt : List ℕ) (strided : Bool) (size i1 zn zd stride : ℕ) → number_of r ≡ pick c.s (pick c.t 0 6) 5 → stride ≡ pick strided 4 1
      → read_at rows (pick strided 4 3) w ≡ accept (pick (eqb stride 4) (Luti4s size i1 zn zd) (Luti4c size i1 zn zd)) → z' ≡ if_done (number_of r) (luti4_file s.vl size i1 zn zd stride zt z) z
      → VectorWord (pick strided 4 3) s w c r zt z z'
  luti4_word zt true size i1 zn zd stride answer k e q p known =
      on_vectors s w 4 _ (rw k at e) z p zt c known z' _ (number_of r) answer (rw k at q)
      (luti4s_done z _ p zt c s.vl size i1 zn zd (ready s w 4 _ (rw k at e) z p zt c known) refl)
  luti4_word zt false size i1 zn zd stride answer k e q p known =
      on_vectors s w 3 _ (rw k at e) z p zt c known z' _ (number_of r) answer (rw k at q)
      (luti4c_done z _ p zt c s.vl size i1 zn zd (ready s w 3 _ (rw k at e) z p zt c known) refl)

  pub narrow_word_lem : (op u b t : Bool) (size shift zn zd : ℕ) → number_of r ≡ pick c.v 0 4 → read_at rows 5 w ≡ accept (Narrow op u b t size shift zn zd)
      → z' ≡ if_done (number_of r) (narrow_file s.vl op u b t size shift zn zd z) z → TablelessWord 5 s w c r z z'
  narrow_word_lem op u b t size shift zn zd answer e q zt p known =
      on_vectors s w 5 _ e z p zt c known z' _ (number_of r) answer q
      (narrow_done z _ p zt c s.vl op u b t size shift zn zd (ready s w 5 _ e z p zt c known) refl)
