-- `encode` meets its contract: each return is the case of the definition that its tests say.
use Rattle.element.proofs.Tests.{said_no, said_yes}
use Rattle.encoder.proofs.Cases.{encode_not_allowed, encode_out_of_range, encode_undefined, encode_word, its_features}
use Rattle.encoder.proofs.encode.Goals as goal

pub returns-then-not-allowed : goal.returns-then-not-allowed
returns-then-not-allowed c = encode_not_allowed _ _ (said_no c.allowed.ensures c.if-not-allowed.true)

pub returns-then-not-in_range : goal.returns-then-not-in_range
returns-then-not-in_range c = encode_out_of_range _ _ (said_yes c.allowed.ensures c.if-not-allowed.false) (said_no c.in_range.ensures c.if-not-in_range.true)

pub returns-then-not-available : goal.returns-then-not-available
returns-then-not-available c = encode_undefined _ _ (said_yes c.allowed.ensures c.if-not-allowed.false) (said_yes c.in_range.ensures c.if-not-in_range.false) (said_no (its_features c.args.instruction _ c.place.ensures c.available.ensures) c.if-not-available.true)

pub returns : goal.returns
returns c = encode_word _ _ (said_yes c.allowed.ensures c.if-not-allowed.false) (said_yes c.in_range.ensures c.if-not-in_range.false) (said_yes (its_features c.args.instruction _ c.place.ensures c.available.ensures) c.if-not-available.false) c.word_of.ensures
