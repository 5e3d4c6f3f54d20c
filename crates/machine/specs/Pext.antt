-- PEXT, whose rows are `pext1` and `pext2`: portions of a counter's mask, from the first on, to Pd and on.
use Rattle.std.specs.Prelude.{List, [], ◌∷◌, ℕ, ◌+◌, ◌%◌}
use Rattle.setting.specs.Allowed.{has_feature}
use Rattle.setting.specs.declared.Feature.TheVariants.{Sve2p1}
use Rattle.logic.specs.Pick.{pick}
use Rattle.logic.specs.Every.{each}
use Rattle.order.specs.Banks.{Register}
use Rattle.pext.specs.Pext.{pext_of}
use Rattle.machine.specs.Machine.{P}
use Rattle.machine.specs.Needs.{need}
use Rattle.machine.specs.Effect.{Effect, contents}

abbrev pub pext_writes : ℕ → ℕ → List Register
pext_writes portions pd = each (λ k. P ((pd + k) % 16)) portions

abbrev pub pext_effect : ℕ → ℕ → ℕ → ℕ → ℕ → Effect
pext_effect size first portions counter pd = record {
  -- V with SVE2p1, else S
  needs = λ s f. pick (has_feature s.features Sve2p1) (need 4 f.v) (need 5 f.s) ∷ [];
  reads = P counter ∷ [];
  writes = pext_writes portions pd;
  gives = λ vl cs. each (λ k. pext_of vl size (first + k) (contents cs 0)) portions;
}
