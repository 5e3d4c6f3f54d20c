-- `listing::carry` meets its contract: the bytes behind the last whole record are written over the front.
use mathlib.Core.Path.{◌≡◌, refl, ◌∙◌}
use mathlib.Core.List.{List}
use Prim.Native.Nat.{ℕ, ◌-◌, ◌%◌}
use native.Mathlib.Nat.{zero-add}
use native.Mathlib.Omega.{arith}
use lib.ListN.{length, length-drop}
use lib.Seq.{paste}
use Rattle.std.proofs.lemmas.List.Edits.{paste_all}
use Rattle.listing.specs.Buffer.{left_of, carried_of}
use Rattle.listing.proofs.carry.Goals as goal

-- the bytes left over, written over the front
carried : (b : List ℕ) → paste b 0 (left_of b) (length b - (length b - length b % 4)) ≡ carried_of b
unfolding carried_of
carried b =
    let e : length b - (length b - length b % 4) ≡ length b % 4 = omega arith in
    rw (e, zero-add) (rw zero-add at (paste_all b 0 (left_of b) (length b % 4) (simp length-drop (omega arith))))

pub returns : goal.returns
returns c = (refl, c.copy_within.ensures.after ∙ carried c.args.buf.now)
