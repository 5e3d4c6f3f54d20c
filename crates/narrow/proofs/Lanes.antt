-- Signed elements as whole numbers: what is read and stored, the clamp, and the rounding. Once over the half s of an element's bits.
use mathlib.Core.Path.{◌≡◌, refl, sym, ap, ◌∙◌}
use mathlib.Core.Bool.{Bool, true, false}
use Prim.Native.Nat.{ℕ, suc, ◌+◌, ◌-◌, ◌*◌, ◌/◌, ◌%◌, ◌^◌, ◌≤◌, ◌<◌}
use native.Mathlib.Nat.{mod-eq_of_lt, mod-lt, div-add-mod, mul-add-mod_self_left, div-lt_iff_lt-mul, mul-sub, mul-suc, mul-le-mul_left}
use native.Mathlib.Omega.{arith}
use lib.Pow.{pow_pos, pow-add, pow_mono}
use lib.IntN.{ℤ, pos, negsuc, neg_ℤ, ◌+ℤ◌}
use lib.Dec.{leb→le}
use lib.Signed.{mag, shr_z, ◌≤ℤ◌}
use mir.Syntax.{Width, w64}
use mir.Val.{SFits, bits, hbits, to_z, of_z}
use mir.ValLaws.{to_z-of_z, pow-bits, bits-suc}
use Rattle.std.specs.Int.{int_min, int_max, int_shr}
use Rattle.std.specs.Ordering.{int_cmp, ord_min, ord_max}
use Rattle.std.proofs.Common.{Ordering}
use Rattle.std.proofs.lemmas.Int.{ints}
use Rattle.narrowing.specs.Narrowing.{Saturating, signed_to_unsigned, signed_to_signed, unsigned_to_unsigned, form, signed_of, value, term, least, greatest, shifted, within, result, low, stored}
use Rattle.narrowing.specs.Points.{narrowed}
use Rattle.narrowing.proofs.Stored.{in_range, neg_mag}
use Rattle.narrow.specs.Private.{below, above, ShiftReady, SignedReady}
use Rattle.narrow.proofs.Clamp.{halved, mag_twice, signed_form, clamp_first}
use Rattle.narrow.proofs.Computed as computed

-- ---- an element's bits

read_is : (w : Width) (s x : ℕ) → bits w ≡ 2 * s → x < 2 ^ (2 * s) → to_z w x ≡ signed_of (2 * s) x
unfolding signed_of
read_is w s x h l =
    let b = pow-bits w in
    let c = bits-suc w in
    let e : 2 * s - 1 ≡ hbits w = omega arith in
    let f : x < 2 ^ bits w = rw h l in
    rw (e, ← h) (grind (arith, ints))

signed_mag : (s x : ℕ) → 1 ≤ s → x < 2 ^ (2 * s) → mag (signed_of (2 * s) x) < 2 ^ (2 * s - 1)
unfolding signed_of
signed_mag s x some h =
    let e : 2 * s - 1 + 1 ≡ 2 * s = omega arith in
    let d : 2 ^ (2 * s) ≡ 2 ^ (2 * s - 1) * 2 = ap (λ (n : ℕ). 2 ^ n) (sym e) ∙ pow-add 2 (2 * s - 1) 1 in
    grind (arith, ints)

-- the low half of what is stored
low_is : (w : Width) (s : ℕ) (z : ℤ) → bits w ≡ 2 * s → SFits w z → of_z w z % 2 ^ s ≡ low s z
unfolding low
low_is w s (pos n) e f = refl
low_is w s (negsuc n) e f =
    let b = pow-bits w in
    let g = f.sfits in
    let p : 2 ^ bits w ≡ 2 ^ s * 2 ^ s = ap (λ (m : ℕ). 2 ^ m) (e ∙ omega arith) ∙ pow-add 2 s s in
    let d = div-add-mod n (2 ^ s) in
    let m = mod-lt n (pow_pos s) in
    let l : 2 ^ s - 1 - n % 2 ^ s < 2 ^ s = omega arith in
    let i : n < 2 ^ s * 2 ^ s = omega arith in
    let q : n / 2 ^ s < 2 ^ s = (div-lt_iff_lt-mul (pow_pos s)).1 i in
    let c : 2 ^ bits w - suc n ≡ 2 ^ s * (2 ^ s - 1 - n / 2 ^ s) + (2 ^ s - 1 - n % 2 ^ s) = omega (arith, mul-sub (2 ^ s) (2 ^ s - 1) (n / 2 ^ s), mul-sub (2 ^ s) (2 ^ s) 1, mul-le-mul_left (2 ^ s) q, mul-suc (2 ^ s) (n / 2 ^ s)) in
    rw (c, mul-add-mod_self_left (2 ^ s) (2 ^ s - 1 - n / 2 ^ s) (2 ^ s - 1 - n % 2 ^ s)) (mod-eq_of_lt l)

-- ---- the type's order is that of the numbers

module _ {S : Type 0} (value : S → ℤ) (cmp : S → S → Ordering) (order : (x y : S) → cmp x y ≡ int_cmp (value x) (value y)) where
  min_is : (x y : S) → value (ord_min cmp x y) ≡ int_min (value x) (value y)
  min_is x y = rw (order y x) (grind (arith, ints))

  max_is : (x y : S) → value (ord_max cmp x y) ≡ int_max (value x) (value y)
  max_is x y = rw (order y x) (grind (arith, ints))

  pub clamped_is : (x lo hi m y : S) {l h : ℤ} → m ≡ ord_min cmp x hi → y ≡ ord_max cmp m lo → value lo ≡ l → value hi ≡ h → value y ≡ int_max (int_min (value x) h) l
  clamped_is x lo hi m y em ey el eh = ap value ey ∙ max_is m lo ∙ rw (em, min_is x hi, el, eh)

clamp_is : (x lo hi : ℤ) → lo ≤ℤ hi → int_max (int_min x hi) lo ≡ within lo hi x
clamp_is x lo hi o = grind (arith, ints)

-- ---- rounded by halving in the end, or not rounded

room : (s : ℕ) → 3 ≤ s → 2 ^ s * 4 ≤ 2 ^ (2 * s - 1)
room s some =
    let e : 2 ^ (s + 2) ≡ 2 ^ s * 4 = pow-add 2 s 2 in
    let l : s + 2 ≤ 2 * s - 1 = omega arith in
    rw (← e) (pow_mono l)

no_term : (y : ℤ) → y +ℤ pos 0 ≡ y
no_term y = omega (arith, ints)

module _ {r : Bool} {s k : ℕ} {y : ℤ} (p : ShiftReady r s k y) where
  half_of : r ≡ true → shr_z (shr_z y (2 ^ (k - 1)) +ℤ pos 1) 2 ≡ shifted r k y
  half_of e = rw e (halved true k y p.some)

  module _ (e : r ≡ true) {h one : ℤ} (eh : h ≡ int_shr y (k - 1)) (eo : one ≡ pos 1) where
    pub sum_fits : 3 ≤ s → mag (h +ℤ one) < 2 ^ (2 * s - 1)
    sum_fits some =
        let l = room s some in
        let q = p.small in
        let m = mag_twice (shr_z y (2 ^ (k - 1)) +ℤ pos 1) in
        let c = ap mag (half_of e) in
        let t = pow_pos s in
        rw (eh, eo) (omega arith)

    pub half_is : {u v : ℤ} → u ≡ h +ℤ one → v ≡ int_shr u 1 → v ≡ shifted r k y
    half_is eu ev = ev ∙ rw (eu, eh, eo) (half_of e)

  pub whole_is : r ≡ false → int_shr y k ≡ shifted r k y
  unfolding shifted term
  whole_is e = rw (e, no_term y)

-- ---- one signed element x, v its value and y the clamped one

-- a result has a magnitude below 2^s
small : (f : Saturating) (s : ℕ) (z : ℤ) → least f s ≤ℤ z → z ≤ℤ greatest f s → mag z < 2 ^ s
unfolding least greatest
small signed_to_unsigned s (pos n) a b = let h = leb→le n (2 ^ s - 1) b.le in omega (arith, pow_pos s)
small signed_to_unsigned s (negsuc n) a b = absurd a.le
small signed_to_signed s (pos n) a b = let h = leb→le n (2 ^ (s - 1) - 1) b.le in let l : s - 1 ≤ s = omega arith in omega (arith, pow_pos (s - 1), pow_mono l)
small signed_to_signed s (negsuc n) a b = let h = neg_mag (2 ^ (s - 1)) n a in let l : s - 1 ≤ s = omega arith in omega (arith, pow_mono l)
small unsigned_to_unsigned s (pos n) a b = let h = leb→le n (2 ^ s - 1) b.le in omega (arith, pow_pos s)
small unsigned_to_unsigned s (negsuc n) a b = absurd a.le

neg_le_pos : (a b : ℕ) → neg_ℤ (pos a) ≤ℤ pos b
neg_le_pos a b = grind (arith, ints)

narrowed_is : (op r : Bool) (s k x : ℕ) → narrowed (form op false) r s k x ≡ low s (result (signed_form op) r s k (signed_of (2 * s) x))
unfolding form value stored
narrowed_is false r s k x = refl
narrowed_is true r s k x = refl

module _ {x s k : ℕ} {op r : Bool} {lo hi : ℤ} (p : SignedReady x op r s k lo hi) where
  pub lo_fits : mag lo < 2 ^ (2 * s - 1)
  lo_fits = rw p.bounds.least (computed.neg_mag (below op r s k) (pow_pos (2 * s - 1)) (computed.below_le p.sized op r))

  pub hi_fits : mag hi < 2 ^ (2 * s - 1)
  hi_fits = rw p.bounds.greatest (computed.above_lt p.sized op r)

  -- the bounds, as 64 bits hold them
  pub lo_is : to_z w64 (of_z w64 lo) ≡ lo
  lo_is = let a = lo_fits in let b = computed.room r p.sized in to_z-of_z w64 lo (record { sfits = omega arith })

  pub hi_is : to_z w64 (of_z w64 hi) ≡ hi
  hi_is = let a = hi_fits in let b = computed.room r p.sized in to_z-of_z w64 hi (record { sfits = omega arith })

  ordered : lo ≤ℤ hi
  ordered = rw (p.bounds.least, p.bounds.greatest) (neg_le_pos (below op r s k) (above op r s k))

  module _ (w : Width) (whole : bits w ≡ 2 * s) {v y : ℤ} (ev : v ≡ to_z w x) (ey : y ≡ int_max (int_min v hi) lo) where
    law : result (signed_form op) r s k (signed_of (2 * s) x) ≡ shifted r k y
    law =
        let a = p.sized.some in
        let m = p.sized.most in
        let o : 1 ≤ s = omega arith in
        let d : y ≡ within lo hi (signed_of (2 * s) x) = ey ∙ clamp_is v lo hi ordered ∙ ap (within lo hi) (ev ∙ read_is w s x whole p.fit) in
        rw (d, p.bounds.least, p.bounds.greatest) (clamp_first r s k a m op (signed_of (2 * s) x) (signed_mag s x o p.fit))

    q_small : mag (shifted r k y) < 2 ^ s
    q_small = let i = in_range (signed_form op) r s k (signed_of (2 * s) x) in rw law at (small (signed_form op) s _ i.0 i.1)

    pub shift_ready : ShiftReady r s k y
    shift_ready = record { some = p.sized.some; most = p.sized.most; small = q_small }

    pub signed_is : {q : ℤ} {n : ℕ} → 3 ≤ s → q ≡ shifted r k y → n ≡ of_z w q % 2 ^ s → n ≡ narrowed (form op false) r s k x
    signed_is {q} some eq en =
        let l = room s some in
        let e = bits-suc w in
        let d : hbits w ≡ 2 * s - 1 = omega arith in
        let i : mag q < 2 ^ hbits w = rw (eq, d) (let h = q_small in omega arith) in
        en ∙ low_is w s q whole (record { sfits = i }) ∙ ap (low s) (eq ∙ sym law) ∙ sym (narrowed_is op r s k x)
