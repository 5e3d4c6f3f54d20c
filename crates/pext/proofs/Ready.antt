-- What the tests before PEXT say of its operands: each test by itself.
use mathlib.Core.Path.{◌≡◌, refl, ◌∙◌}
use mathlib.Core.Bool.{true, ◌&&◌, ◌||◌}
use Prim.Native.Nat.{ℕ, ◌+◌, ◌/◌, ◌<◌}
use lib.Dec.{eqb, leb, ltb}
use borrow.Author.Tests.{eqb-true, lt-ltb, eq-eqb}
use Rattle.setting.specs.Allowed.{length_allowed}
use Rattle.element.specs.Files.{predicate_file}
use Rattle.element.specs.Size.{is_size}
use Rattle.element.proofs.Tests.{both_yes}
use Rattle.element.proofs.Units.{is_size_at}
use Rattle.counter.specs.Portion.{extractable}
use Rattle.counter.proofs.Lengths.{length_is}
use Rattle.pext.specs.Pext.{pext_ready}
use Rattle.pext.specs.Private.{Portion}

-- what is asked of the file and of the length
pub file_and_length : (bytes vl size first portions pn pd : ℕ) → pext_ready bytes vl size first portions pn pd ≡ true → (bytes ≡ predicate_file) × (length_allowed vl ≡ true)
unfolding pext_ready
file_and_length bytes vl size first portions pn pd h =
    let few = eqb portions 1 || eqb portions 2 in
    let a = both_yes (eqb bytes predicate_file && length_allowed vl && is_size size && few && leb (first + portions) 4) (ltb pn 16 && ltb pd 16) h in
    let b = both_yes (eqb bytes predicate_file && length_allowed vl && is_size size && few) (leb (first + portions) 4) a.0 in
    let d = both_yes (eqb bytes predicate_file && length_allowed vl && is_size size) few b.0 in
    let e = both_yes (eqb bytes predicate_file && length_allowed vl) (is_size size) d.0 in
    let f = both_yes (eqb bytes predicate_file) (length_allowed vl) e.0 in
    (eqb-true bytes predicate_file f.0, f.1)

-- each of the four portions can be extracted into a slot
pub portion_ready : {bytes vl log : ℕ} → bytes ≡ predicate_file → length_allowed vl ≡ true → log < 4 → (p k : ℕ) → p < 4 → k < 16 → Portion bytes vl log p k
unfolding extractable
portion_ready {vl = vl} {log = log} file allowed sized p k h l =
    record { file = file; length = length_is vl allowed; to = l; extracts = rw (allowed, is_size_at log ∙ lt-ltb log 4 sized, lt-ltb p 4 h, eq-eqb (vl / 64) (vl / 64) refl) }
