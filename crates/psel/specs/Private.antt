-- What the code behind the tests asks of its operands.
use Rattle.std.specs.Prelude.{◌≡◌, true, ℕ, ◌/◌, ◌<◌}
use Rattle.setting.specs.Allowed.{length_allowed}
use Rattle.element.specs.Files.{predicate_file}
use Rattle.element.specs.Units.{size_at}
use Rattle.psel.specs.Psel.{psel_ready}
use Rattle.psel.specs.declared.operands.Operands.{Operands}

-- an element of a register's contents
pub record ElementReady (vl log room : ℕ) : Type 0 where
  pub allowed : length_allowed vl ≡ true
  pub sized : log < 4
  pub whole : room ≡ vl / 64

-- an accepted call: the file, the length, and the operands as they were passed
pub record Accepted (o : Operands) (bytes vl log w offset pn pm pd : ℕ) : Type 0 where
  pub ready : psel_ready bytes vl (size_at log) offset pn pm pd ≡ true
  pub file : bytes ≡ predicate_file
  pub allowed : length_allowed vl ≡ true
  pub log_is : o.log ≡ log
  pub w_is : o.w ≡ w
  pub offset_is : o.offset ≡ offset
  pub pn_is : o.pn ≡ pn
  pub pm_is : o.pm ≡ pm
  pub pd_is : o.pd ≡ pd
