-- `value` meets its contract: the chosen element's bit lies in the register, at index·size/8.
use mathlib.Core.Path.{◌∙◌}
use Rattle.psel.specs.Psel.{value_of}
use Rattle.psel.proofs.Elements.{chosen_bit}
use Rattle.psel.proofs.selection.value.Goals as goal

pub test-requires : goal.test-requires
test-requires c =
    let s = c in
    let p = chosen_bit s.args.vl s.args.o.log s.requires.sized s.requires.allowed s.args.o.w s.args.o.offset in
    rw (c.unit-unit.ensures, p.0, s.requires.whole) p.1

pub returns : goal.returns
unfolding value_of
returns c =
    let s = c in
    let p = chosen_bit s.args.vl s.args.o.log s.requires.sized s.requires.allowed s.args.o.w s.args.o.offset in
    c.test.ensures ∙ rw (c.unit-unit.ensures, p.0)
