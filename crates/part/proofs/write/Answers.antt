-- `write` meets its contract: the library's bytes of the number are its low bytes, and nothing is written to a part of another length.
use Rattle.std.proofs.Common.{take, inl, inr, refl, ap, ◌∙◌, arith}
use Rattle.part.proofs.Widths.{stored, stored_none, low_bytes}
use Rattle.part.proofs.write.Goals as goal

pub returns-in-2 : goal.returns-in-2
returns-in-2 c = stored c.args.o.now 2 _ c.in-2.is (inl refl) (c.copy_from_slice.ensures.after ∙ ap (take 2) c.to_le_bytes-low.ensures ∙ low_bytes 2 c.args.r (inl refl))

pub returns-in-4 : goal.returns-in-4
returns-in-4 c = stored c.args.o.now 4 _ c.in-4.is (inr (inl refl)) (c.copy_from_slice-in-4.ensures.after ∙ ap (take 4) c.to_le_bytes-low.ensures ∙ low_bytes 4 c.args.r (inr (inl refl)))

pub returns-in-8 : goal.returns-in-8
returns-in-8 c = stored c.args.o.now 8 _ c.in-8.is (inr (inr refl)) (c.copy_from_slice-in-8.ensures.after ∙ c.to_le_bytes-low.ensures ∙ low_bytes 8 c.args.r (inr (inr refl)))

pub returns-in_default : goal.returns-in_default
returns-in_default c = stored_none _ (λ e. omega arith) (λ e. omega arith) (λ e. omega arith) _
