-- `bounds_of` meets its contract: the bounds of the class, by the laws of Computed.
use native.Mathlib.Omega.{arith}
use Rattle.narrow.proofs.Flags.{flag_set, flag_clear}
use Rattle.narrow.proofs.Computed.{numbers, term_lt, top_is, signed_are, unsigned_are}
use Rattle.narrow.proofs.bounds.bounds_of.Goals as goal

pub overflow_sub-result-then-this-ne0 : goal.overflow_sub-result-then-this-ne0
overflow_sub-result-then-this-ne0 g c = let l = term_lt (numbers c.requires c.from.ensures) in omega arith

pub returns-then-this-ne0 : goal.returns-then-this-ne0
returns-then-this-ne0 g c = (flag_set g.row.U c.if-this-ne0.true, top_is (numbers c.requires c.from.ensures))

pub overflow_sub-result-then-this-ne0-2-2 : goal.overflow_sub-result-then-this-ne0-2-2
overflow_sub-result-then-this-ne0-2-2 g c = let l = term_lt (numbers c.requires c.from.ensures) in omega arith

pub returns-then-this-ne0-2 : goal.returns-then-this-ne0-2
returns-then-this-ne0-2 g c =
    (flag_clear g.row.U c.if-this-ne0.false, rw (flag_set g.row.OP c.if-this-ne0-2.true) (signed_are (numbers c.requires c.from.ensures) c.min-b.ensures c.wrapping_neg.type_inv c.wrapping_neg.ensures c.cast_signed.ensures))

pub overflow_sub-p-3 : goal.overflow_sub-p-3
overflow_sub-p-3 g c = let l = term_lt (numbers c.requires c.from.ensures) in omega arith

pub returns : goal.returns
returns g c =
    (flag_clear g.row.U c.if-this-ne0.false, rw (flag_clear g.row.OP c.if-this-ne0-2.false) (unsigned_are (numbers c.requires c.from.ensures) c.min-a.ensures c.wrapping_neg-2.type_inv c.wrapping_neg-2.ensures c.cast_signed-2.ensures))
