-- The page of an instruction: what it needs, reads and writes, and the new contents of what it writes.
use Rattle.std.specs.Prelude.{List, [], ℕ, get_or}
use Rattle.setting.specs.declared.Setting.{Setting}
use Rattle.order.specs.Banks.{Register}
use Rattle.machine.specs.Machine.{Flags}
use Rattle.machine.specs.Needs.{Need}

pub record Effect : Type 0 where
  -- document 01's column "Access", in the order of the numbers
  pub needs : Setting → Flags → List Need
  -- document 01, "What a word touches"
  pub reads : List Register
  pub writes : List Register
  -- document 01, "Operations": of VL and the contents of what is read, in the order of `reads`; in the order of `writes`
  pub gives : ℕ → List (List ℕ) → List (List ℕ)

-- the contents of the i-th register read
abbrev pub contents : List (List ℕ) → ℕ → List ℕ
contents cs i = get_or cs i []
