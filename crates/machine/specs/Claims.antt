-- What `claims` promises of the definitions: the numbers that a step and a run answer, the run of one word, the laws of the registers, what a run leaves of the scalars, the starred cases, what PEXT and PSEL words touch and give, and what narrowing words touch.
use Rattle.std.specs.Prelude.{◌≡◌, ◌⊎◌, List, [], ◌∷◌, ℕ, ◌≤◌}
use Rattle.setting.specs.declared.Setting.{Setting}
use Rattle.logic.specs.Every.{Every}
use Rattle.order.specs.Banks.{same_register}
use Rattle.order.specs.Touch.{SeparateRegisters}
use Rattle.machine.specs.Machine.{Machine, get, put, next, flags_of}
use Rattle.machine.specs.Step.{step_of}
use Rattle.machine.specs.Run.{run_of, ran_once, moved_on}
use Rattle.machine.specs.Points.{starred, predicate_words, narrow_touches}

-- document 02, request 3: a step answers 0 to 6
abbrev pub StepAnswers : Type 0
StepAnswers = (s : Setting) (w : ℕ) (m : Machine) → (step_of s w m).number ≤ 6

-- and a run one of these or 8
abbrev pub RunAnswers : Type 0
RunAnswers = (s : Setting) (words : List ℕ) (m : Machine) → ((run_of s words m).answer ≤ 6) ⊎ ((run_of s words m).answer ≡ 8)

-- the run of one word is the step
abbrev pub RunOfOneWord : Type 0
RunOfOneWord = (s : Setting) (w : ℕ) (m : Machine) → run_of s (w ∷ []) m ≡ ran_once (step_of s w m)

-- two registers that are not the same do not see each other, and PC and the flags stand apart, at any VL up to 2048 and of files of any length
abbrev pub RegisterLaws : Type 0
RegisterLaws = (vl : ℕ) → vl ≤ 2048 → SeparateRegisters same_register (get vl) (put vl) next flags_of

-- each word that a run has done moves PC, and no word another scalar
abbrev pub RunMovesPc : Type 0
RunMovesPc = (s : Setting) (words : List ℕ) (m : Machine) → (run_of s words m).left.scalars ≡ moved_on (run_of s words m).done m.scalars

pub record Claims : Type 0 where
  pub step_answers : StepAnswers
  pub run_answers : RunAnswers
  pub one_word : RunOfOneWord
  pub registers : RegisterLaws
  pub moves : RunMovesPc
  pub starred : Every starred
  pub predicate_words : Every predicate_words
  pub narrow_touches : Every narrow_touches
