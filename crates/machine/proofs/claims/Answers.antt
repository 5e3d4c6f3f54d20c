-- `claims` meets its contract: the theorems, each proved in Answers, OneWord, Registers, Moves or BoardPoints.
use Rattle.machine.proofs.Answers.{step_answers, run_answers}
use Rattle.machine.proofs.OneWord.{run_of_one_word}
use Rattle.machine.proofs.Registers.{registers}
use Rattle.machine.proofs.Moves.{run_moves_pc}
use Rattle.machine.proofs.BoardPoints.{starred_points, predicate_words_lem, narrow_touches_lem}
use Rattle.machine.proofs.claims.Goals as goal

pub returns : goal.returns
returns c = record { step_answers = step_answers; run_answers = run_answers; one_word = run_of_one_word; registers = registers; moves = run_moves_pc; starred = starred_points; predicate_words = predicate_words_lem; narrow_touches = narrow_touches_lem }
