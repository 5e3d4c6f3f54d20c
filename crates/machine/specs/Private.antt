-- What the private functions go by, here and in `interpreter`: an instruction's new contents put into a machine, PC apart.
use Rattle.std.specs.Prelude.{◌≡◌, true, List, ℕ, zero, suc}
use Rattle.setting.specs.Allowed.{length_allowed, allowed_of}
use Rattle.order.specs.Steps.{Ended}
use Rattle.element.specs.Files.{vector_file, predicate_file, table_file}
use Rattle.order.specs.Touch.{gets, puts}
use Rattle.encoding.specs.Rows.{rows}
use Rattle.encoding.specs.Places.{place_first}
use Rattle.encoding.specs.Instructions.{in_range}
use Rattle.encoding.specs.declared.Instruction.{Instruction}
use Rattle.machine.specs.Machine.{Machine, machine, get, put, next, advanced, flags_of}
use Rattle.machine.specs.Needs.{first_failed}
use Rattle.machine.specs.Effects.{effect_of}
use Rattle.machine.specs.Step.{Step, sized, step_of, step_as}
use Rattle.machine.specs.Run.{run_as, moved_on}
use Rattle.setting.specs.Numbers.{Answer, number_of}
use Rattle.setting.specs.declared.Setting.{Setting}
use Rattle.machine.specs.declared.Scalars.{Scalars}

unfoldable pub done_of : ℕ → Instruction → Machine → Machine
done_of vl i m = puts (put vl) (effect_of i).writes ((effect_of i).gives vl (gets (get vl) (effect_of i).reads m)) m

-- the files have their lengths, VL is allowed and the fields are in range
pub record Ready (z p zt vl : ℕ) (i : Instruction) : Type 0 where
  pub vectors : z ≡ vector_file
  pub predicates : p ≡ predicate_file
  pub table : zt ≡ table_file
  pub length : length_allowed vl ≡ true
  pub range : in_range i ≡ true

-- refused for the first need that is not met, or done with PC moved
abbrev pub executed : ℕ → ℕ → Instruction → Machine → Step
executed zero vl i m = record { number = 0; left = next (done_of vl i m) }
executed (suc k) vl i m = record { number = suc k; left = m }

unfoldable pub executed_of : Setting → Instruction → Machine → Step
executed_of s i m = executed (first_failed ((effect_of i).needs s (flags_of m))) s.vl i m

-- the tests that come before a word: 1 and 2
pub record Checked (s : Setting) (m : Machine) : Type 0 where
  pub allowed : allowed_of s ≡ true
  pub files : sized m ≡ true

-- and the place of the word's row is known
pub record Known (k : ℕ) (s : Setting) (w : ℕ) (m : Machine) : Type 0 where
  pub checked : Checked s m
  pub place : k ≡ place_first rows s.features w

-- what is left of an answer, the files at exit and the scalars as they were: PC moves where the answer is 0
abbrev pub moved_by : ℕ → Scalars → Scalars
moved_by zero c = advanced c
moved_by (suc k) c = c

abbrev pub stepped_by : Answer → List ℕ → List ℕ → List ℕ → Scalars → Step
stepped_by a z p zt c = step_as (number_of a) z p zt (moved_by (number_of a) c)

-- a number after n words that were done, with the files at exit and the scalars as they were before the stretch
abbrev pub went_as : ℕ → ℕ → List ℕ → List ℕ → List ℕ → Scalars → Ended Machine
went_as a n z p zt c = run_as a n z p zt (moved_on n c)

-- ---- a word that is lent one file: its answer and that file are the step's, whatever the other files are
abbrev pub PredicateWord : ℕ → Setting → ℕ → Scalars → Answer → List ℕ → List ℕ → Type 0
PredicateWord k s w c r p p' = (z zt : List ℕ) → Known k s w (machine z p zt c) → stepped_by r z p' zt c ≡ step_of s w (machine z p zt c)

abbrev pub VectorWord : ℕ → Setting → ℕ → Scalars → Answer → List ℕ → List ℕ → List ℕ → Type 0
VectorWord k s w c r zt z z' = (p : List ℕ) → Known k s w (machine z p zt c) → stepped_by r z' p zt c ≡ step_of s w (machine z p zt c)

-- one that reads no table
abbrev pub TablelessWord : ℕ → Setting → ℕ → Scalars → Answer → List ℕ → List ℕ → Type 0
TablelessWord k s w c r z z' = (zt : List ℕ) → VectorWord k s w c r zt z z'
