-- `copied_if` meets its contract: each byte under the pattern of every bit, or of none.
use Rattle.std.proofs.Common.{◌∙◌}
use Rattle.psel.proofs.Elements.{by_pattern}
use Rattle.psel.proofs.selection.copied_if.Goals as goal

pub returns : goal.returns
returns c =
    let a = c.args in
    c.masked.ensures
    ∙ by_pattern a.pn.now (λ j. (c.type_inv.pn j).fits) _ _ a.v c.requires.0 c.requires.1 c.kept.ensures
