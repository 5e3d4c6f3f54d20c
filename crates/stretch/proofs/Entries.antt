-- The entries before any word is read; and a position that fails the code's test fails the definition's.
use Rattle.std.proofs.Common.{◌≡◌, Bool, false, ltb, take, sym, ℕ, ◌≤◌, ◌<◌, List, length, refl}
use native.Mathlib.Nat.{not-suc-le-zero}
use borrow.Author.Tests.{le-ltb}
use mathlib.Core.Bool.{and-false}
use Rattle.element.proofs.Below.{one_fails}
use Rattle.element.proofs.Tests.{said_no}
use Rattle.std.specs.List.{list_all}
use Rattle.setting.specs.declared.Setting.{Setting}
use Rattle.logic.specs.Every.{all}
use Rattle.stretch.specs.Private.{entry_at, Told, keeps_entry, stands_at}
use Rattle.stretch.specs.declared.tables.Entry.{Entry}

module _ (s : Setting) (words : List ℕ) (entries : List Entry) where
  pub told_none : length entries ≡ length words → Told s words 0 entries
  told_none e = record {
    long = e;
    read = refl;
    each = λ i h. absurd (not-suc-le-zero h);
  }

-- ---- a position that fails
module _ (entries : List Entry) (j : ℕ) (h : j < length entries) where
  pub unlisted : length entries ≤ (entry_at entries j).place → false ≡ all (stands_at entries) (length entries)
  unlisted l = sym (one_fails (stands_at entries) (length entries) j h (rw (le-ltb (entry_at entries j).place (length entries) l)))

  pub turned : {b : Bool} → b ≡ list_all (λ e. keeps_entry e (entry_at entries j)) (take j entries) → b ≡ false → false ≡ all (stands_at entries) (length entries)
  turned e f = sym (one_fails (stands_at entries) (length entries) j h (rw (said_no e f) (and-false (ltb (entry_at entries j).place (length entries)))))
