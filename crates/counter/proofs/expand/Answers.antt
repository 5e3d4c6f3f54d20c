-- `expand` meets its contract: the bits before the edge, or behind it, at the places of the size.
use mathlib.Core.Path.{◌≡◌, sym, ap, ◌∙◌}
use mathlib.Core.Bool.{Bool, true, false}
use Prim.Native.Nat.{ℕ, ◌-◌, ◌/◌, ◌^◌, ◌<◌}
use native.Mathlib.Omega.{arith}
use borrow.Author.Tests.{eq-eqb, ne_eqb}
use lib.Dec.{eqb, ltb, lit<}
use Rattle.element.specs.Contents.{gather}
use Rattle.counter.specs.Counter.{inverts, flipped}
use Rattle.counter.specs.Private.{mask_of, at_places}
use Rattle.counter.proofs.Lengths.{few_zeros, inverts_is}
use Rattle.counter.proofs.Masks.{mask_is, no_mask}
use Rattle.counter.proofs.Words.{flipped_bits}
use Rattle.counter.proofs.expand.Goals as goal
use Rattle.counter.proofs.expand.Goals.{After-from_place-x}

-- x: the bits before the edge, or behind it
mask : (c : After-from_place-x) (inv : Bool) (x : ℕ)
    → inverts c.args.c.0 ≡ inv
    → x ≡ gather (λ b. flipped inv (ltb b c.saturating_sub.result)) 0 64
    → (at_places x c.log_of_field-z.result ≡ mask_of c.args.vl c.args.c.0 c.args.from) × (c.log_of_field-z.result < 4)
mask c inv x ei ex =
    let a = c.args in (
      mask_is a.vl a.c.0 a.from c.requires.1 c.if-b-eq0.false inv c.log_of_field-z.result c.saturating_sub.result x ei c.log_of_field-z.ensures
          (c.saturating_sub.ensures ∙ ap (λ (t : ℕ). t - a.from) c.edge.ensures)
          ex,
      omega (arith, c.log_of_field-z.ensures, few_zeros a.c.0 c.if-b-eq0.false),
    )

-- bit 15
inverts_bit : (c : After-from_place-x) → eqb (c.args.c.0 / 32768) 1 ≡ inverts c.args.c.0
inverts_bit c = inverts_is c.args.c.0 (omega arith)

pub returns-then-b-eq0 : goal.returns-then-b-eq0
returns-then-b-eq0 c = let a = c.args in (no_mask a.vl a.c.0 a.from c.if-b-eq0.true, lit< tt)

pub returns-then-b-eq1 : goal.returns-then-b-eq1
returns-then-b-eq1 c = let o = c.before in mask o true _ (sym (inverts_bit o) ∙ eq-eqb _ 1 c.if-b-eq1.true) c.from_place-x.ensures

pub returns : goal.returns
returns c =
    let o = c.before in
    mask o false _ (sym (inverts_bit o) ∙ ne_eqb _ 1 c.if-b-eq1.false) (ap (λ (x : ℕ). 2 ^ 64 - 1 - x) c.from_place-x.ensures ∙ flipped_bits (λ b. ltb b c.saturating_sub.result))
