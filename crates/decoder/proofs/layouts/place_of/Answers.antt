-- `place_of` meets its contract: before each turn `place` is the place of the first row that matches from k on.
use mathlib.Core.Path.{refl}
use Prim.Native.Nat.{◌-◌, ◌<◌}
use native.Mathlib.Omega.{arith}
use lib.ListN.{length}
use Rattle.encoding.specs.Rows.{rows}
use Rattle.encoding.specs.Places.{place_first}
use Rattle.decoder.proofs.Search.{tested, turned}
use Rattle.decoder.proofs.layouts.place_of.Goals as goal

pub loop-k-init : goal.loop-k-init
unfolding place_first
loop-k-init c = (omega arith, refl)

pub loop-k-preserved : goal.loop-k-preserved
loop-k-preserved c =
    let l = c in
    let k = l.loop-k.k - 1 in
    let h : k < length rows = omega arith in
    (omega arith, turned k l.loop-k.k _ _ h (omega arith) l.loop-k.invariant.1 (tested k _ _ h c.has_layout.ensures c.rest.ensures) c.select_unpredictable-place.ensures)
