-- What the tests before PSEL say of its operands, each test by itself, the file as it is left where they say yes, and which length is left of the five.
use mathlib.Core.Path.{◌≡◌, refl}
use mathlib.Core.Bool.{true, false, ◌&&◌}
use mathlib.Core.List.{List}
use Prim.Native.Nat.{ℕ, ◌+◌, ◌/◌, ◌≤◌, ◌<◌}
use native.Mathlib.Omega.{arith}
use lib.Dec.{eqb, ltb}
use lib.ListN.{length}
use borrow.Author.Tests.{eqb-true}
use Rattle.setting.specs.Allowed.{length_allowed}
use Rattle.setting.proofs.Lengths.{length_cases}
use Rattle.element.specs.Files.{predicate_file}
use Rattle.element.specs.Size.{is_size}
use Rattle.element.specs.Slots.{slot, set_slot}
use Rattle.element.specs.Units.{size_at}
use Rattle.element.proofs.Tests.{both_yes}
use Rattle.psel.specs.Psel.{psel_of, psel_ready, psel_leaves}
use Rattle.psel.specs.Private.{Accepted}
use Rattle.psel.specs.declared.operands.Operands.{Operands}

-- what is asked of the file and of the length
pub file_and_length : (bytes vl size offset pn pm pd : ℕ) → psel_ready bytes vl size offset pn pm pd ≡ true → (bytes ≡ predicate_file) × (length_allowed vl ≡ true)
unfolding psel_ready
file_and_length bytes vl size offset pn pm pd h =
    let file = eqb bytes predicate_file && length_allowed vl in
    let a = both_yes (file && is_size size && ltb offset 16) (ltb pn 16 && ltb pm 16 && ltb pd 16) h in
    let b = both_yes (file && is_size size) (ltb offset 16) a.0 in
    let d = both_yes file (is_size size) b.0 in
    let e = both_yes (eqb bytes predicate_file) (length_allowed vl) d.0 in
    (eqb-true bytes predicate_file e.0, e.1)

-- the work is what the definition leaves, by any name of the length and of the operands
pub worked : (vl name log w offset pn pm pd : ℕ) (o : Operands) (f q : List ℕ)
    → vl ≡ name
    → Accepted o (length f) vl log w offset pn pm pd
    → q ≡ set_slot 32 (name / 64) o.pd (psel_of name (size_at o.log) (o.w + o.offset) (slot 32 (name / 64) o.pn f) (slot 32 (name / 64) o.pm f)) f
    → q ≡ psel_leaves vl (size_at log) w offset pn pm pd f
unfolding psel_leaves
worked vl name log w offset pn pm pd o f q e k h =
    rw (k.ready, e) (rw (k.log_is, k.w_is, k.offset_is, k.pn_is, k.pm_is, k.pd_is) at h)

pub untouched : (vl size w offset pn pm pd : ℕ) (f : List ℕ)
    → psel_ready (length f) vl size offset pn pm pd ≡ false
    → f ≡ psel_leaves vl size w offset pn pm pd f
unfolding psel_leaves
untouched vl size w offset pn pm pd f refused = rw refused

-- the lengths that are left when three have been tested: one below 1024, and one that is not
pub is_256 : (vl : ℕ) → length_allowed vl ≡ true → (vl ≡ 128 → ⊥) → (vl ≡ 512 → ⊥) → vl < 1024 → vl ≡ 256
is_256 =
    length_cases (λ vl. (vl ≡ 128 → ⊥) → (vl ≡ 512 → ⊥) → vl < 1024 → vl ≡ 256)
    (λ a b h. absurd (a refl)) (λ a b h. refl) (λ a b h. absurd (b refl)) (λ a b h. omega (arith, h)) (λ a b h. omega (arith, h))

pub is_1024 : (vl : ℕ) → length_allowed vl ≡ true → (vl ≡ 2048 → ⊥) → 1024 ≤ vl → vl ≡ 1024
is_1024 =
    length_cases (λ vl. (vl ≡ 2048 → ⊥) → 1024 ≤ vl → vl ≡ 1024)
    (λ a h. omega (arith, h)) (λ a h. omega (arith, h)) (λ a h. omega (arith, h)) (λ a h. refl) (λ a h. absurd (a refl))
