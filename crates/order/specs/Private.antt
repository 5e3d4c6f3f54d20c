-- What no public promise cites: what lets two words change places.
use Rattle.std.specs.Prelude.{◌≡◌, Bool, false, ℕ}

-- where two words do not conflict, neither changes what the other is refused for, and they may change places; of words that conflict nothing is asked
pub record Independent {M : Type 0} (refusal : ℕ → M → ℕ) (exec : ℕ → M → M) (conflict : ℕ → ℕ → Bool) : Type 0 where
  pub kept : (v w : ℕ) (m : M) → conflict v w ≡ false → refusal w (exec v m) ≡ refusal w m
  pub kept_back : (v w : ℕ) (m : M) → conflict v w ≡ false → refusal v (exec w m) ≡ refusal v m
  pub swap : (v w : ℕ) (m : M) → conflict v w ≡ false → exec w (exec v m) ≡ exec v (exec w m)
