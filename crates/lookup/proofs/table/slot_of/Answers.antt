-- `slot_of` meets its contract: what is copied is the whole slot.
use Rattle.std.proofs.Common.{◌∙◌}
use Rattle.element.proofs.Slots.{slot_part}
use Rattle.lookup.proofs.table.slot_of.Goals as goal

pub returns : goal.returns
returns c = c.copy_from_slice.ensures.after ∙ slot_part 256 256 c.args.k c.args.z.now c.requires
