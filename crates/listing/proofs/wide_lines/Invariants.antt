-- After i turns of `wide_lines` the first i records are listed.
use Rattle.std.proofs.Common.{◌*◌, ◌≤◌, take}
use Rattle.std.specs.List.{flat_map}
use Rattle.listing.specs.Private.{Began, quad_line}
use Rattle.listing.proofs.wide_lines.Given as goal

abbrev pub invariant-loop-quad : goal.invariant-loop-quad
invariant-loop-quad l = record {
  room : l.at ≤ 19 * l.quad-index;
  text : Began (flat_map quad_line (take l.quad-index l.quads)) l.initial.out l.out l.at;
}
