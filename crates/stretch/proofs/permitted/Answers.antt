-- `permitted` meets its contract: each return is the case of the definition that its tests say.
use Rattle.std.proofs.Common.{arith}
use Rattle.std.proofs.lemmas.Result.{err_from_is_err_and}
use Rattle.element.proofs.Tests.{said_no, said_yes}
use Rattle.stretch.proofs.Permitting.{all_unplaced, placed_permitted, permission_not_allowed, permission_too_many, permission_unread, permission_other_length, permission_is}
use Rattle.stretch.proofs.permitted.Goals as goal

pub returns-then-not-allowed : goal.returns-then-not-allowed
returns-then-not-allowed c = permission_not_allowed _ _ _ (said_no c.allowed.ensures c.if-not-allowed.true)

pub returns-then-n-gt256 : goal.returns-then-n-gt256
returns-then-n-gt256 c = permission_too_many _ _ _ (said_yes c.allowed.ensures c.if-not-allowed.false) (omega arith)

pub returns-in_err-give_touches : goal.returns-in_err-give_touches
returns-in_err-give_touches c =
    let p = err_from_is_err_and c.from_residual.result c.from_residual.ensures.1 in
    rw (p.1, p.2, c.in_err-give_touches.ensures.number) (permission_unread _ _ _ (said_yes c.allowed.ensures c.if-not-allowed.false) c.if-n-gt256.false c.in_err-give_touches.ensures.unread)

pub returns-then-order-n : goal.returns-then-order-n
returns-then-order-n c = permission_other_length _ _ _ (said_yes c.allowed.ensures c.if-not-allowed.false) (omega arith) c.in_ok-give_touches.ensures.read c.if-order-n.true

pub give_places-requires : goal.give_places-requires
give_places-requires c = all_unplaced c.args.setting c.args.words.now c.args.order.now c.if-order-n.false c.give_touches.new.entries c.in_ok-give_touches.ensures

pub returns : goal.returns
returns c =
    let a = c.args in
    permission_is a.setting a.words.now a.order.now (said_yes c.allowed.ensures c.if-not-allowed.false) c.if-n-gt256.false c.in_ok-give_touches.ensures.read
    (placed_permitted a.setting a.words.now a.order.now c.if-order-n.false c.give_touches.new.entries c.in_ok-give_touches.ensures c.give_places.new.entries c.give_places.auto.entries c.give_places.ensures c.stands.ensures)
