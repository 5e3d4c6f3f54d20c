-- `entry` meets its contract: the part that is read is one entry of sixteen.
use Rattle.std.proofs.Common.{refl, inl, inr}
use Rattle.element.proofs.Filling.{part_length}
use Rattle.part.proofs.Widths.{element_read}
use Rattle.lookup.proofs.table.entry.Goals as goal

pub returns : goal.returns
returns c =
    let a = c.args in (
      element_read a.i 16 4 a.zt.now c.requires c.told-zt (inr (inl refl)) c.read.ensures,
      rw (part_length a.i 16 4 a.zt.now c.requires c.told-zt) at c.read.ensures.below,
    )
