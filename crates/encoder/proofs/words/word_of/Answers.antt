-- `word_of` meets its contract: the fixed bits at the instruction's place are its row's, and the sum is a word of 32 bits.
use mathlib.Core.Path.{subst, sym}
use Prim.Native.Nat.{ℕ, ◌^◌, ◌<◌}
use Rattle.encoding.proofs.Round.{own_word_lt}
use Rattle.encoder.proofs.WordLaws.{with_fixed_bits}
use Rattle.encoder.proofs.words.word_of.Goals as goal

pub overflow_add-result : goal.overflow_add-result
overflow_add-result c =
    let b = c in
    record {
      fits =
          subst (λ (n : ℕ). n < 2 ^ 32) (sym (with_fixed_bits b.args.instruction c.fields_of.result b.place.ensures c.fixed_bits-fixed.ensures c.fields_of.ensures)) (own_word_lt b.args.instruction b.requires);
    }
