-- After i turns of `hex` the digits of the word's first i bytes stand at the front.
use Rattle.std.proofs.Common.{◌*◌, ◌≡◌, length, take}
use Rattle.text.specs.Text.{hex_digits}
use Rattle.listing.proofs.hex.Given as goal

abbrev pub invariant-loop-i : goal.invariant-loop-i
invariant-loop-i l = (length l.out ≡ 8) × (take (2 * l.i) l.out ≡ take (2 * l.i) (hex_digits 8 l.word))
