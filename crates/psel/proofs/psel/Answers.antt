-- `psel` meets its contract: its test decides between the work, by any name of the length, and nothing.
use Rattle.psel.proofs.Ready.{worked, untouched, is_256, is_1024}
use Rattle.psel.proofs.psel.Goals as goal

pub returns-in_default-clause-file : goal.returns-in_default-clause-file
returns-in_default-clause-file c = untouched _ _ _ _ _ _ _ _ c.in_default.ensures

pub returns-then-vl-eq128-clause-file : goal.returns-then-vl-eq128-clause-file
returns-then-vl-eq128-clause-file c = worked _ 128 _ _ _ _ _ _ _ _ _ c.if-vl-eq128.true c.in-Some.ensures c.select.ensures

pub returns-then-vl-eq512-clause-file : goal.returns-then-vl-eq512-clause-file
returns-then-vl-eq512-clause-file c = worked _ 512 _ _ _ _ _ _ _ _ _ c.if-vl-eq512.true c.in-Some.ensures c.select-then-vl-eq512.ensures

pub returns-then-vl-eq2048-clause-file : goal.returns-then-vl-eq2048-clause-file
returns-then-vl-eq2048-clause-file c = worked _ 2048 _ _ _ _ _ _ _ _ _ c.if-vl-eq2048.true c.in-Some.ensures c.select-then-vl-eq2048.ensures

-- the two lengths that are told apart by their order alone
pub returns-then-vl-lt1024-clause-file : goal.returns-then-vl-lt1024-clause-file
returns-then-vl-lt1024-clause-file c = worked _ 256 _ _ _ _ _ _ _ _ _ (is_256 _ c.in-Some.ensures.allowed c.if-vl-eq128.false c.if-vl-eq512.false c.if-vl-lt1024.true) c.in-Some.ensures c.select-then-vl-lt1024.ensures

pub returns-clause-file : goal.returns-clause-file
returns-clause-file c = worked _ 1024 _ _ _ _ _ _ _ _ _ (is_1024 _ c.in-Some.ensures.allowed c.if-vl-eq2048.false c.if-vl-lt1024.false) c.in-Some.ensures c.select-2.ensures
