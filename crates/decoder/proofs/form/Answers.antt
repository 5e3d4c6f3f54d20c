-- `form` meets its contract: the place of the first row that matches is the place of the form that is read.
use mathlib.Core.Path.{ap, ◌∙◌}
use Rattle.element.proofs.Tests.{said_no, said_yes}
use Rattle.encoding.specs.Places.{place_in, found_place}
use Rattle.decoder.proofs.Cases.{decode_not_allowed, form_place}
use Rattle.decoder.proofs.form.Goals as goal

pub returns-then-not-allowed : goal.returns-then-not-allowed
returns-then-not-allowed c = ap (λ o. found_place (place_in o)) (decode_not_allowed _ _ (said_no c.allowed.ensures c.if-not-allowed.true))

pub returns : goal.returns
returns c = c.place_of.ensures ∙ ap found_place (form_place _ _ (said_yes c.allowed.ensures c.if-not-allowed.false))
