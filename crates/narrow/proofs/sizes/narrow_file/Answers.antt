-- `narrow_file` meets its contract: each size by its width.
use mathlib.Core.Path.{refl}
use lib.Dec.{lit≤}
use Rattle.narrow.proofs.Files.{chunks_are}
use Rattle.narrow.proofs.sizes.narrow_file.Goals as goal

pub returns-then-size-eq8-clause-z_after : goal.returns-then-size-eq8-clause-z_after
returns-then-size-eq8-clause-z_after c = let a = c.args in chunks_are c.requires 8 2 refl (lit≤ tt) c.if-size-eq8.true refl a.op a.u a.r a.t a.z.now _ c.narrow_sized.ensures

pub returns-then-size-eq16-clause-z_after : goal.returns-then-size-eq16-clause-z_after
returns-then-size-eq16-clause-z_after c = let a = c.args in chunks_are c.requires 4 4 refl (lit≤ tt) c.if-size-eq16.true refl a.op a.u a.r a.t a.z.now _ c.narrow_sized-then-size-eq16.ensures

pub returns-then-size-eq32-clause-z_after : goal.returns-then-size-eq32-clause-z_after
returns-then-size-eq32-clause-z_after c = let a = c.args in chunks_are c.requires 2 8 refl (lit≤ tt) c.if-size-eq32.true refl a.op a.u a.r a.t a.z.now _ c.narrow_sized-then-size-eq32.ensures
