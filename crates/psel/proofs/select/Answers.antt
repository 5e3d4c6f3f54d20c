-- `select` meets its contract: both sources are the slots as they were, and the slot of Pd comes back as what they give.
use Rattle.std.proofs.Common.{◌≡◌, Bool, false, List, ℕ, ◌+◌, ◌/◌, take, ap, ◌∙◌, arith}
use mathlib.Core.Path.{ap₂}
use Rattle.logic.specs.Pick.{pick}
use Rattle.element.specs.Contents.{packed}
use Rattle.element.specs.Slots.{slot}
use Rattle.element.specs.Units.{size_at}
use Rattle.element.proofs.Slots.{slot_part, slot_length, part_length, put_back}
use Rattle.part.proofs.Lengths.{lengths_of}
use Rattle.psel.specs.Psel.{value_of, psel_of}
use Rattle.psel.proofs.Elements.{slot_low, psel_length}
use Rattle.psel.proofs.select.Goals as goal

pub returns : goal.returns
unfolding psel_of
returns c =
    let r = c.value-v in
    let a = c.args in
    let l = lengths_of a.vl c.requires.1 in
    let n = a.vl / 64 in
    let f = a.p.now in
    let pn = slot 32 n a.o.pn f in
    let pm = slot 32 n a.o.pm f in
    let sum = a.o.w + a.o.offset in
    let s = c.copy_from_slice.new.self in
    let held : take n s ≡ pn = ap (take n) (c.copy_from_slice.ensures.after ∙ slot_part 32 32 a.o.pn f (omega arith)) ∙ slot_low 32 n 32 a.o.pn f (omega arith) (omega arith) in
    let v : r.result ≡ value_of a.vl (size_at a.o.log) sum pm = r.ensures ∙ ap (value_of a.vl (size_at a.o.log) sum) (slot_part 32 n a.o.pm f (omega arith)) in
    put_back 32 n a.o.pd f _ (psel_of a.vl (size_at a.o.log) sum pn pm) (omega arith) (psel_length a.vl (size_at a.o.log) sum pn pm (slot_length 32 n a.o.pn f (omega arith)))
    (c.copied_if.ensures
    ∙ ap (λ (k : ℕ). pick r.result (take n s) (packed (λ b. false) k)) (part_length 32 n a.o.pd f (omega arith))
    ∙ ap₂ (λ (x : Bool) (l : List ℕ). pick x l (packed (λ b. false) n)) v held)
