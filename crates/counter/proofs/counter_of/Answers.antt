-- `counter_of` meets its contract: the number of the first two bytes.
use Rattle.std.proofs.Common.{◌≡◌, get_or, arith}
use Rattle.std.proofs.lemmas.Grind.{common_steps}
use Rattle.element.proofs.Filling.{first_two}
use Rattle.counter.proofs.counter_of.Goals as goal

pub returns : goal.returns
returns c =
    let p = c.args.p.now in
    let low : c.unwrap_or-low.result ≡ get_or p 0 0 = grind (arith, common_steps) in
    let high : c.unwrap_or-high.result ≡ get_or p 1 0 = grind (arith, common_steps) in
    omega (arith, first_two p, low, high)
