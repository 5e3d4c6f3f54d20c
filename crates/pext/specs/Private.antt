-- What the code behind the tests asks of its operands.
use Rattle.std.specs.Prelude.{◌≡◌, true, ℕ, ◌/◌, ◌<◌}
use Rattle.setting.specs.Allowed.{length_allowed}
use Rattle.element.specs.Units.{size_at}
use Rattle.element.specs.Files.{predicate_file}
use Rattle.counter.specs.Portion.{extractable}
use Rattle.counter.specs.Private.{Length}
use Rattle.pext.specs.Pext.{pext_ready}
use Rattle.pext.specs.declared.operands.Operands.{Operands}

-- a portion that there is, and the register of a file that it goes to
pub record Portion (bytes vl log p pd : ℕ) : Type 0 where
  pub file : bytes ≡ predicate_file
  pub length : Length vl
  pub to : pd < 16
  pub extracts : extractable vl (size_at log) p (vl / 64) ≡ true

-- an accepted call: the file, the length, and the operands as they were passed
pub record Accepted (o : Operands) (bytes vl log first portions pn pd : ℕ) : Type 0 where
  pub ready : pext_ready bytes vl (size_at log) first portions pn pd ≡ true
  pub file : bytes ≡ predicate_file
  pub allowed : length_allowed vl ≡ true
  pub log_is : o.log ≡ log
  pub first_is : o.first ≡ first
  pub portions_is : o.portions ≡ portions
  pub pn_is : o.pn ≡ pn
  pub pd_is : o.pd ≡ pd
