-- `places` meets its contract: a byte's pattern eight times is the pattern of sixty-four bits, by one test over the four sizes.
use mathlib.Core.Path.{ap, ◌∙◌}
use mathlib.Core.Bool.{Bool}
use Prim.Native.Nat.{ℕ, ◌*◌, ◌%◌, ◌^◌}
use lib.Dec.{eqb, eqb→eq}
use Rattle.element.specs.Contents.{gather}
use Rattle.element.specs.Units.{pattern_of}
use Rattle.element.proofs.Below.{below}
use Rattle.counter.proofs.places.Goals as goal

spread : ℕ → Bool
unfolding gather
spread z = eqb (pattern_of z * 0x0101010101010101) (gather (λ b. eqb (b % 2 ^ z) 0) 0 64)

pub returns : goal.returns
unfolding spread gather
returns c =
    let z = c.args.z in
    ap (λ (n : ℕ). n * 0x0101010101010101) c.pattern_of.ensures ∙ eqb→eq (pattern_of z * 0x0101010101010101) (gather (λ b. eqb (b % 2 ^ z) 0) 0 64) (below spread 4 tt z c.requires)
