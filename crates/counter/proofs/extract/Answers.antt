-- `extract` meets its contract: a portion is the sample that starts at p·VL/8.
use Rattle.std.proofs.Common.{Bool, ◌*◌, ◌/◌, length, sym, ap, ◌∙◌, arith}
use Rattle.logic.specs.Pick.{pick}
use Rattle.element.specs.Contents.{packed}
use Rattle.element.specs.Units.{size_at}
use Rattle.element.proofs.Tests.{said_yes}
use Rattle.element.proofs.Units.{at_log}
use Rattle.counter.specs.Portion.{portion_of}
use Rattle.counter.specs.Private.{sampled_bit}
use Rattle.counter.proofs.Parts.{extractable_is, portion_sample}
use Rattle.counter.proofs.extract.Goals as goal

pub overflow_mul-portion : goal.overflow_mul-portion
overflow_mul-portion c =
    let a = c.args in
    let r = extractable_is a.vl a.log a.portion (length a.o.now) (said_yes c.can_extract.ensures c.if-not-can_extract.false) in omega (arith, r.fits)

pub sample-requires : goal.sample-requires
sample-requires c =
    let a = c.args in
    let r = extractable_is a.vl a.log a.portion (length a.o.now) (said_yes c.can_extract.ensures c.if-not-can_extract.false) in
    (record { length = r.length; whole = r.start; small = r.small }, r.filled)

pub returns-clause-part : goal.returns-clause-part
returns-clause-part c =
    let a = c.args in
    let can = said_yes c.can_extract.ensures c.if-not-can_extract.false in
    let r = extractable_is a.vl a.log a.portion (length a.o.now) can in
    c.sample.ensures
    ∙ ap (packed (sampled_bit a.vl a.c.0 a.log (a.portion * (a.vl / 8)))) r.whole
    ∙ portion_sample a.vl (size_at a.log) a.portion a.c.0 a.log r.length.even (at_log a.log r.small)
    ∙ ap (λ (b : Bool). pick b (portion_of a.vl (size_at a.log) a.portion a.c.0) a.o.now) (sym can)
