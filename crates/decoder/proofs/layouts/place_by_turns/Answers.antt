-- `place_by_turns` meets its contract: no row whose turn has passed matches; one that does is the first, and every place comes at its turn.
use mathlib.Core.Path.{sym, ap, ap₂, ◌∙◌}
use mathlib.Core.Bool.{Bool, ◌&&◌}
use native.Mathlib.Omega.{arith}
use lib.ListN.{get_or}
use Rattle.encoding.specs.Places.{found_place}
use Rattle.decoder.proofs.Cases.{place_at}
use Rattle.decoder.proofs.Search.{tested, turns_of_code, turn_lt, none_found, found}
use Rattle.decoder.proofs.layouts.place_by_turns.Goals as goal

pub returns-then-rest : goal.returns-then-rest
returns-then-rest c =
    let h = c in
    let k = get_or turns_of_code h.loop-k.k-index 0 in
    let l = turn_lt turns_of_code tt h.loop-k.k-index (omega arith) in
    place_at k l ∙ ap found_place (found k _ _ (sym (tested k _ _ l h.has_layout.ensures c.rest.ensures) ∙ ap₂ (λ (x y : Bool). x && y) c.if-has_layout.true c.if-rest.true))

pub returns : goal.returns
returns c = let l = c.loop-k in ap found_place (none_found turns_of_code _ _ l.k-index tt l.invariant (omega arith))
