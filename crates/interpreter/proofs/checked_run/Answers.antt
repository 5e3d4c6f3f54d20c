-- `checked_run` meets its contract: what is left of the stretch, stepped from where the loop stands, ends as the whole does.
use Rattle.std.proofs.Common.{◌≡◌, length, sym, refl, ◌∙◌, arith}
use Rattle.machine.proofs.Runs.{moved_on_none, moved_on_once, stopped_unmoved, went_on_moved, ended, still_checked}
use Rattle.interpreter.proofs.Refused.{refused_number, done_number}
use Rattle.interpreter.proofs.checked_run.Goals as goal

pub loop-n-init : goal.loop-n-init
loop-n-init c = record { short = c.requires.1; within = omega arith; vectors = refl; predicates = refl; checked = c.requires.0; scalars = moved_on_none 0 _ refl; left = refl }

pub returns-then-is_err : goal.returns-then-is_err
returns-then-is_err c = let l = c.loop-n in
    let k = c.step_in_run-answer in
    stopped_unmoved _ _ l.n _ _ _ _ _ _ _ (omega arith) k.ensures l.invariant.left _ l.invariant.scalars (refused_number _ (sym c.is_err.ensures.value ∙ c.if-is_err.true))

pub loop-n-preserved : goal.loop-n-preserved
loop-n-preserved c = let l = c.loop-n in
    let k = c.step_in_run-answer in
    let y = k.auto.z in
    let x = k.auto.p in
    record {
      short = l.invariant.short;
      within = omega arith;
      vectors = y ∙ l.invariant.vectors;
      predicates = x ∙ l.invariant.predicates;
      checked = still_checked _ _ _ _ _ _ _ _ y x l.invariant.checked;
      scalars = c.advance-held.ensures ∙ moved_on_once _ _ _ l.invariant.scalars;
      left = went_on_moved _ _ l.n _ _ _ _ _ _ _ (omega arith) k.ensures l.invariant.left _ c.advance-held.ensures (done_number _ (sym c.is_err.ensures.value ∙ c.if-is_err.false));
    }

pub returns : goal.returns
returns c = let l = c.loop-n in let whole : l.n ≡ length c.args.words.now = omega arith in rw (← whole) (ended _ _ l.n _ _ _ _ _ _ whole l.invariant.scalars l.invariant.left)
