-- `above_lowest` meets its contract: half of what the shift leaves; past 31 places nothing of a 32-bit number is left.
use mathlib.Core.Path.{◌≡◌, refl, sym, ap, ◌∙◌}
use mathlib.Core.Bool.{Bool, true, false, cond}
use Prim.Native.Nat.{ℕ, ◌+◌, ◌/◌, ◌^◌, ◌≤◌, ◌<◌}
use native.Mathlib.Nat.{div-eq_of_lt, pow-le-pow_right}
use native.Mathlib.Omega.{arith}
use lib.Dec.{ltb, lit<}
use lib.Pow.{pow-add}
use Rattle.std.proofs.Math.Nat.{div-div-eq-div-mul}
use Rattle.std.proofs.lemmas.Bool.{ltb-false}
use Rattle.fields.proofs.above_lowest.Goals as goal

halved : (b l : ℕ) {n : ℕ} (t : Bool) → b < 2 ^ 32 → ltb l 32 ≡ t → n ≡ cond t (b / 2 ^ l) 0 → n / 2 ≡ b / 2 ^ (l + 1)
halved b l true h e q = rw q (div-div-eq-div-mul b (2 ^ l) 2 ∙ ap (λ (m : ℕ). b / m) (sym (pow-add 2 l 1)))
halved b l false h e q =
    let k = ltb-false l 32 e in
    let far : 2 ^ 32 ≤ 2 ^ (l + 1) = pow-le-pow_right {n = 2} (lit< tt) {i = 32} {j = l + 1} (omega (arith, k)) in
    rw q (sym (div-eq_of_lt (omega (arith, far, h))))

pub returns : goal.returns
returns c = halved c.args.bits c.args.log (ltb c.args.log 32) (omega arith) refl c.unbounded_shr.ensures
