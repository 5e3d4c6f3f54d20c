-- `pattern_of` meets its contract: a byte of the number is the pattern, by one test over the four sizes.
use Rattle.std.proofs.Common.{Bool, ℕ, ◌*◌, ◌/◌, ◌%◌, ◌^◌, eqb}
use lib.Dec.{eqb→eq}
use Rattle.element.specs.Units.{pattern_of}
use Rattle.element.proofs.Below.{below}
use Rattle.element.proofs.pattern_of.Goals as goal

is_byte : ℕ → Bool
is_byte z = eqb (0x011155ff / 2 ^ (8 * z) % 256) (pattern_of z)

pub returns-then-z-lt4 : goal.returns-then-z-lt4
unfolding is_byte
returns-then-z-lt4 c = let z = c.before.args.z in eqb→eq (0x011155ff / 2 ^ (8 * z) % 256) (pattern_of z) (below is_byte 4 tt z c.if-z-lt4.true)
