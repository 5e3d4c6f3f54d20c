-- What a run keeps from turn to turn: after some words the rest of the stretch ends as the whole does.
use Rattle.std.proofs.Common.{◌≡◌, ℕ, ◌≤◌, List, length, drop}
use Rattle.setting.specs.declared.Setting.{Setting}
use Rattle.order.specs.Steps.{steps}
use Rattle.machine.specs.Machine.{machine}
use Rattle.machine.specs.Step.{refusal_of, exec_of}
use Rattle.machine.specs.Private.{Checked}
use Rattle.machine.specs.Run.{moved_on}
use Rattle.machine.specs.declared.Scalars.{Scalars}

pub record Running (z₀ p₀ zt : List ℕ) (s : Setting) (words : List ℕ) (before : Scalars) (z p : List ℕ) (held : Scalars) (done : ℕ) : Type 0 where
  pub short : length words ≤ 256
  pub within : done ≤ length words
  pub vectors : length z ≡ length z₀
  pub predicates : length p ≡ length p₀
  pub checked : Checked s (machine z p zt held)
  pub scalars : held ≡ moved_on done before
  pub left : steps (refusal_of s) (exec_of s) (drop done words) done (machine z p zt held) ≡ steps (refusal_of s) (exec_of s) words 0 (machine z₀ p₀ zt before)
