-- An answer's number is 0 exactly where it is no refusal.
use Rattle.std.proofs.Common.{◌≡◌, true, false, refl}
use Rattle.std.specs.Result.{is_err}
use Rattle.std.specs.Prelude.{Ok, Err}
use Rattle.setting.specs.Numbers.{Answer, number_of}
use Rattle.setting.proofs.Numbers.{numbers_apart}

pub refused_number : (a : Answer) → is_err a ≡ true → number_of a ≡ 0 → ⊥
refused_number (Ok done) e z = cc
refused_number (Err refusal) e z = cc (numbers_apart (Err refusal) (Ok tt) z)

pub done_number : (a : Answer) → is_err a ≡ false → number_of a ≡ 0
done_number (Ok done) e = refl
done_number (Err refusal) e = cc
