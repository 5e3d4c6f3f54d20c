-- `sample` meets its contract: after k turns the first 8k bytes are the sample's, the others as they were.
use Rattle.std.proofs.Common.{ℕ, ◌≡◌, ◌+◌, ◌-◌, ◌*◌, length, take, drop, refl, sym, ap, ◌∙◌, inr, arith, length-take, length-drop}
use Rattle.part.proofs.Widths.{stored}
use Rattle.element.specs.Contents.{bytes, fill, gather, packed}
use Rattle.counter.specs.Private.{mask_of, at_places, sampled_bit}
use Rattle.counter.proofs.Packed.{few_bytes, eight_more}
use Rattle.counter.proofs.Masks.{sample_is, moved}
use Rattle.counter.proofs.sample.Goals as goal

-- what was expanded, at the places
sampled : (vl c s from : ℕ) {m r : ℕ} → m ≡ mask_of vl c from → r ≡ at_places m s → r ≡ gather (sampled_bit vl c s from) 0 64
sampled vl c s from e h = h ∙ ap (λ (n : ℕ). at_places n s) e ∙ sample_is vl c s from

pub returns-then-o-lt8 : goal.returns-then-o-lt8
returns-then-o-lt8 c =
    let a = c.args in
    let n = length a.o.now in
    c.write.ensures
    ∙ sym (stored a.o.now n c.at_places.result refl (c.requires.1.few c.if-o-lt8.true) refl)
    ∙ ap (bytes n) (sampled a.vl a.c.0 a.s a.from c.expand.ensures.0 c.at_places.ensures)
    ∙ few_bytes (sampled_bit a.vl a.c.0 a.s a.from) n (omega (arith, c.if-o-lt8.true))

pub loop-k-init : goal.loop-k-init
unfolding packed fill
loop-k-init c = refl

pub loop-k-preserved : goal.loop-k-preserved
loop-k-preserved c =
    let l = c.loop-k in
    let a = c.args in
    let g = sampled_bit a.vl a.c.0 a.s a.from in
    let at = 8 * l.k in
    let part = take (at + 8 - at) (drop at l.o) in
    let eight : length part ≡ 8 = simp (length-take, length-drop) (omega arith) in
    let here = sampled a.vl a.c.0 a.s (a.from + 8 * at) c.expand-m.ensures.0 c.at_places-in-loop-k.ensures in
    let word = c.write-in-loop-k.ensures ∙ sym (stored part 8 c.at_places-in-loop-k.result eight (inr (inr refl)) refl) ∙ ap (bytes 8) (here ∙ moved a.vl a.c.0 a.s a.from c.requires.0.small at) in
    let next : 8 * (l.k + 1) ≡ at + 8 = omega arith in
    rw next (eight_more g at a.o.now l.o _ l.invariant word)
