-- `four_destinations`'s loop: after r turns the file is the definition's, all of the copy of Zn.
use Rattle.std.proofs.Common.{◌*◌, ◌≡◌}
use Rattle.lookup.specs.Lookup.{index_bits, destinations, luti_file}
use Rattle.lookup.proofs.table.four_destinations.Given as goal

abbrev pub invariant-loop-r : goal.invariant-loop-r
invariant-loop-r g l = l.z ≡ luti_file index_bits (8 * g.row.W) l.o.vl destinations l.segment l.o.zn l.o.first l.o.stride l.zt l.fn.z l.r
