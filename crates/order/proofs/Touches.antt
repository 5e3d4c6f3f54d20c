-- Two words that do not conflict may change places, and a word that writes something conflicts with its copy: from the laws of the registers, by induction on what the words read and write.
use mathlib.Core.Path.{◌≡◌, refl, sym, ◌∙◌, ap, ap₂}
use mathlib.Core.Bool.{Bool, true, false, ◌||◌, or-true}
use mathlib.Core.List.{List, [], ◌∷◌, ◌++◌}
use Prim.Native.Nat.{ℕ, ◌<◌}
use native.Mathlib.Omega.{arith}
use lib.ListN.{length}
use Rattle.order.specs.Touch.{holds, meet, conflicting, gets, puts, perform, SeparateRegisters}
use Rattle.order.specs.Private.{Independent}

-- ---- lists of registers
or_left : (a b : Bool) → a || b ≡ false → a ≡ false
or_left true b h = h
or_left false b h = refl

or_right : (a b : Bool) → a || b ≡ false → b ≡ false
or_right true b h = let z : true ≡ false = h in cc
or_right false b h = h

module _ {R : Type 0} (same : R → R → Bool) where
  holds_left : (r : R) (ss ts : List R) → holds same r (ss ++ ts) ≡ false → holds same r ss ≡ false
  unfolding holds
  holds_left r [] ts h = refl
  holds_left r (s ∷ ss) ts h = rw (or_left (same r s) (holds same r (ss ++ ts)) h) (holds_left r ss ts (or_right (same r s) _ h))

  holds_right : (r : R) (ss ts : List R) → holds same r (ss ++ ts) ≡ false → holds same r ts ≡ false
  unfolding holds
  holds_right r [] ts h = h
  holds_right r (s ∷ ss) ts h = holds_right r ss ts (or_right (same r s) _ h)

  meet_left : (rs ss ts : List R) → meet same rs (ss ++ ts) ≡ false → meet same rs ss ≡ false
  unfolding meet
  meet_left [] ss ts h = refl
  meet_left (r ∷ rs) ss ts h =
      rw (holds_left r ss ts (or_left (holds same r (ss ++ ts)) _ h)) (meet_left rs ss ts (or_right (holds same r (ss ++ ts)) _ h))

  meet_right : (rs ss ts : List R) → meet same rs (ss ++ ts) ≡ false → meet same rs ts ≡ false
  unfolding meet
  meet_right [] ss ts h = refl
  meet_right (r ∷ rs) ss ts h =
      rw (holds_right r ss ts (or_left (holds same r (ss ++ ts)) _ h)) (meet_right rs ss ts (or_right (holds same r (ss ++ ts)) _ h))

  -- ---- copies
  module _ (self : (r : R) → same r r ≡ true) where
    holds_past : (r : R) (ss ts : List R) → holds same r (ss ++ r ∷ ts) ≡ true
    unfolding holds
    holds_past r [] ts = rw self
    holds_past r (s ∷ ss) ts = rw (holds_past r ss ts) (or-true (same r s))

    -- a list that is not empty meets what ends with that list
    meet_self : (rs ss : List R) → 0 < length rs → meet same rs (ss ++ rs) ≡ true
    unfolding meet
    meet_self [] ss h = absurd (omega arith)
    meet_self (r ∷ rs) ss h = rw (holds_past r ss rs)

    pub copies_conflict : (reads writes : ℕ → List R) (w : ℕ) → 0 < length (writes w) → conflicting same reads writes w w ≡ true
    unfolding conflicting
    copies_conflict reads writes w h = rw (meet_self (writes w) (reads w) h)

module _ {M R C F : Type 0} (same : R → R → Bool) (get : R → M → C) (put : R → C → M → M) (next : M → M) (flags : M → F) (L : SeparateRegisters same get put next flags) where
  -- ---- one write, and reads or writes of others
  gets_put : (s : R) (v : C) (rs : List R) (m : M) → holds same s rs ≡ false → gets get rs (put s v m) ≡ gets get rs m
  unfolding gets holds
  gets_put s v [] m h = refl
  gets_put s v (r ∷ rs) m h =
      ap₂ (λ (x : C) (xs : List C). x ∷ xs) (L.get_put r s v m (or_left (same s r) _ h)) (gets_put s v rs m (or_right (same s r) _ h))

  put_puts : (r : R) (u : C) (ss : List R) (vs : List C) (m : M) → holds same r ss ≡ false → put r u (puts put ss vs m) ≡ puts put ss vs (put r u m)
  unfolding puts holds
  put_puts r u [] vs m h = refl
  put_puts r u (s ∷ ss) [] m h = refl
  put_puts r u (s ∷ ss) (v ∷ vs) m h =
      put_puts r u ss vs (put s v m) (or_right (same r s) _ h) ∙ ap (puts put ss vs) (L.put_put r s u v m (or_left (same r s) _ h))

  -- ---- writes, and reads or writes of others
  gets_puts : (ss : List R) (vs : List C) (rs : List R) (m : M) → meet same ss rs ≡ false → gets get rs (puts put ss vs m) ≡ gets get rs m
  unfolding puts meet
  gets_puts [] vs rs m h = refl
  gets_puts (s ∷ ss) [] rs m h = refl
  gets_puts (s ∷ ss) (v ∷ vs) rs m h =
      gets_puts ss vs rs (put s v m) (or_right (holds same s rs) _ h) ∙ gets_put s v rs m (or_left (holds same s rs) _ h)

  puts_puts : (rs : List R) (us : List C) (ss : List R) (vs : List C) (m : M) → meet same rs ss ≡ false
      → puts put rs us (puts put ss vs m) ≡ puts put ss vs (puts put rs us m)
  unfolding puts meet
  puts_puts [] us ss vs m h = refl
  puts_puts (r ∷ rs) [] ss vs m h = refl
  puts_puts (r ∷ rs) (u ∷ us) ss vs m h =
      ap (puts put rs us) (put_puts r u ss vs m (or_left (holds same r ss) _ h)) ∙ puts_puts rs us ss vs (put r u m) (or_right (holds same r ss) _ h)

  -- ---- the counter and the flags stand apart from all of them
  gets_next : (rs : List R) (m : M) → gets get rs (next m) ≡ gets get rs m
  unfolding gets
  gets_next [] m = refl
  gets_next (r ∷ rs) m = ap₂ (λ (x : C) (xs : List C). x ∷ xs) (L.get_next r m) (gets_next rs m)

  puts_next : (rs : List R) (vs : List C) (m : M) → puts put rs vs (next m) ≡ next (puts put rs vs m)
  unfolding puts
  puts_next [] vs m = refl
  puts_next (r ∷ rs) [] m = refl
  puts_next (r ∷ rs) (v ∷ vs) m = ap (puts put rs vs) (L.put_next r v m) ∙ puts_next rs vs (put r v m)

  flags_puts : (rs : List R) (vs : List C) (m : M) → flags (puts put rs vs m) ≡ flags m
  unfolding puts
  flags_puts [] vs m = refl
  flags_puts (r ∷ rs) [] m = refl
  flags_puts (r ∷ rs) (v ∷ vs) m = flags_puts rs vs (put r v m) ∙ L.flags_put r v m

  -- ---- two words, where a refusal hangs on the flags alone, and new contents on the flags and the registers that the word reads
  module _ (reads writes : ℕ → List R) (refusal : ℕ → M → ℕ) (effect : ℕ → M → List C)
      (by_flags : (w : ℕ) (m m' : M) → flags m ≡ flags m' → refusal w m ≡ refusal w m')
      (by-reads : (w : ℕ) (m m' : M) → flags m ≡ flags m' → gets get (reads w) m ≡ gets get (reads w) m' → effect w m ≡ effect w m') where
    flags_kept : (w : ℕ) (m : M) → flags (perform put next writes effect w m) ≡ flags m
    unfolding perform
    flags_kept w m = L.flags_next _ ∙ flags_puts (writes w) (effect w m) m

    both_done : (v w : ℕ) (m : M) → meet same (writes v) (reads w ++ writes w) ≡ false
        → perform put next writes effect w (perform put next writes effect v m) ≡ next (next (puts put (writes w) (effect w m) (puts put (writes v) (effect v m) m)))
    unfolding perform
    both_done v w m h =
        let x : M = puts put (writes v) (effect v m) m in
        let r : gets get (reads w) (next x) ≡ gets get (reads w) m = gets_next (reads w) x ∙ gets_puts (writes v) (effect v m) (reads w) m (meet_left same (writes v) (reads w) (writes w) h) in
        rw (by-reads w (next x) m (flags_kept v m) r) (ap next (puts_next (writes w) (effect w m) x))

    pub independent : Independent refusal (perform put next writes effect) (conflicting same reads writes)
    unfolding conflicting
    independent = record {
      kept = λ v w m h. by_flags w _ m (flags_kept v m);
      kept_back = λ v w m h. by_flags v _ m (flags_kept w m);
      swap = λ v w m h.
          both_done v w m (or_left (meet same (writes v) (reads w ++ writes w)) _ h)
          ∙ ap (λ (x : M). next (next x)) (puts_puts (writes w) _ (writes v) _ m (meet_right same (writes w) (reads v) (writes v) (or_right (meet same (writes v) (reads w ++ writes w)) _ h)))
          ∙ sym (both_done w v m (or_right (meet same (writes v) (reads w ++ writes w)) _ h));
    }
