-- The answer yes stands for a permission, and a permission is answered yes: `order`'s tests are its definitions, and a refusal is no yes.
use mathlib.Core.Path.{◌≡◌, refl, ap}
use mathlib.Core.Bool.{true}
use mathlib.Core.List.{List}
use Prim.Native.Nat.{ℕ, zero, suc}
use native.Mathlib.Omega.{arith}
use lib.Dec.{leb}
use lib.ListN.{length, get_or}
use borrow.Author.Tests.{leb-true, le-leb}
use Rattle.setting.specs.Allowed.{allowed_of}
use Rattle.setting.specs.Numbers.{accept}
use Rattle.setting.specs.declared.Setting.{Setting}
use Rattle.element.proofs.Tests.{both_yes}
use Rattle.element.proofs.Below.{each_holds, all_true}
use Rattle.order.proofs.Tested.{rearranges_sound, rearranges_whole, permits_sound, permits_whole}
use Rattle.stretch.specs.Conflict.{conflict, is_read}
use Rattle.stretch.specs.Permission.{all_read, unanswered, permitted_by, unless, permitted_of, Permission}
use Rattle.stretch.specs.Claims.{PermittedExactly}
use Rattle.stretch.proofs.Passed.{passed}

module _ (s : Setting) (words order : List ℕ) where
  answered : unanswered s words ≡ 0 → permitted_by s words order ≡ true → Permission s words order
  answered h y =
      let a = passed (allowed_of s) _ 0 h in
      let b = passed (leb (length words) 256) _ 7 a.then in
      let c = passed (all_read s words) _ 2 b.then in
      let d = both_yes _ _ y in
      record {
        allowed = a.yes;
        short = leb-true (length words) 256 b.yes;
        read = each_holds _ (length words) c.yes;
        rearrangement = rearranges_sound (length words) order d.0;
        permitted = permits_sound (conflict s) words order d.1;
      }

  sound : permitted_of s words order ≡ accept true → Permission s words order
  unfolding permitted_of
  sound e = go (unanswered s words) refl e
    where
      go : (k : ℕ) → unanswered s words ≡ k → unless k (permitted_by s words order) ≡ accept true → Permission s words order
      go zero h q = let y : permitted_by s words order ≡ true = cc in answered h y
      go (suc k) h q = let z : ◌≡◌ {A = ℕ} 0 1 = cc in absurd (omega arith)

  whole : Permission s words order → permitted_of s words order ≡ accept true
  unfolding permitted_of
  whole P =
      rw (P.allowed, le-leb (length words) 256 P.short, all_true (λ i. is_read s (get_or words i 0)) (length words) P.read, rearranges_whole (length words) order P.rearrangement)
      (ap accept (permits_whole (conflict s) words order P.permitted))

pub permitted_exactly : PermittedExactly
permitted_exactly s words order = (sound s words order, whole s words order)
