-- Document 01, "A run takes a stretch" and "for a run 1, 2, 8 before any word, also for an empty stretch": what a run answers and leaves.
use Rattle.std.specs.Prelude.{List, [], ◌∷◌, ℕ, zero, suc, leb, length}
use Rattle.setting.specs.Allowed.{allowed_of}
use Rattle.setting.specs.Numbers.{number_of}
use Rattle.setting.specs.declared.Setting.{Setting}
use Rattle.order.specs.Steps.{Ended, steps}
use Rattle.machine.specs.Machine.{Machine, machine, advanced}
use Rattle.machine.specs.Needs.{need, first_failed}
use Rattle.machine.specs.Step.{sized, refusal_of, exec_of, Step}
use Rattle.machine.specs.declared.Scalars.{Scalars}
use Rattle.machine.specs.declared.Ran.{Ran}

-- the number that a run is refused with before any word, or 0
abbrev pub refused_before : Setting → List ℕ → Machine → ℕ
refused_before s words m = first_failed (need 1 (allowed_of s) ∷ need 2 (sized m) ∷ need 8 (leb (length words) 256) ∷ [])

-- a run that is refused with n before any word has done 0 words and leaves the machine as it was
abbrev pub undone : ℕ → Machine → Ended Machine
undone n m = record { answer = n; done = 0; left = m }

-- refused so, or stepped
abbrev pub begun : ℕ → Setting → List ℕ → Machine → Ended Machine
begun zero s words m = steps (refusal_of s) (exec_of s) words 0 m
begun (suc k) s words m = undone (suc k) m

unfoldable pub run_of : Setting → List ℕ → Machine → Ended Machine
run_of s words m = begun (refused_before s words m) s words m

-- a step as a run of its word: one word is done where the number is 0
abbrev pub done_by : ℕ → ℕ
done_by zero = 1
done_by (suc k) = 0

abbrev pub ran_once : Step → Ended Machine
ran_once x = record { answer = x.number; done = done_by x.number; left = x.left }

-- a number, the words done, the files and the scalars as a run
abbrev pub run_as : ℕ → ℕ → List ℕ → List ℕ → List ℕ → Scalars → Ended Machine
run_as n d z p zt c = record { answer = n; done = d; left = machine z p zt c }

-- what `run` answers, with the files at exit
abbrev pub ran_as : Ran → List ℕ → List ℕ → List ℕ → Ended Machine
ran_as r z p zt = run_as (number_of r.answer) r.done z p zt r.scalars

-- after n words that were done PC has moved n times, and no other scalar
unfoldable pub moved_on : ℕ → Scalars → Scalars
moved_on zero c = c
moved_on (suc n) c = advanced (moved_on n c)
