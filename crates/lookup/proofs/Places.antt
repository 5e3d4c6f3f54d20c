-- No index leaves Zn and no destination the file: a segment's destinations times the index width are at most the result's bits.
use mathlib.Core.Path.{◌≡◌, sym, ap, ◌∙◌}
use mathlib.Core.Logic.{⊎_elim, ⊎_map}
use Prim.Native.Nat.{ℕ, suc, ◌+◌, ◌*◌, ◌/◌, ◌%◌, ◌≤◌, ◌<◌}
use native.Mathlib.Nat.{one-mul, mul-pos, mod-lt, mul_assoc, mul_comm, mul-suc, mul-le-mul_left, mul-le-mul_right, le_trans, suc-mul, div-mul-le_self, mul-div-le, le-div_iff_mul-le}
use native.Mathlib.Omega.{arith}
use lib.Dec.{lit<}
use Rattle.lookup.specs.Lookup.{segment_of, position_of}
use Rattle.lookup.specs.Private.{ElementBytes, Result, LutiReady}
use Rattle.lookup.specs.Claims.{PositionInside, SevenNeverComes}

pub size_bounds : {s : ℕ} → Result s → (16 ≤ s) × (s ≤ 32)
size_bounds r = ⊎_elim (λ b. (omega arith, omega arith)) (λ b. (omega arith, omega arith)) r

-- the indexes of the destinations up to r have at most VL bits
up_to : (k s vl d segment r : ℕ) → d * suc segment * k ≤ s → r < d → suc (d * segment + r) * (vl / s) * k ≤ vl
up_to k s vl d segment r i l =
    let m : d * suc segment ≡ d * segment + d = mul-suc d segment in
    let p : suc (d * segment + r) ≤ d * suc segment = omega arith in
    let q : suc (d * segment + r) * k ≤ s = le_trans (mul-le-mul_right k p) i in
    let t : suc (d * segment + r) * (vl / s) * k ≡ suc (d * segment + r) * k * (vl / s) =
    mul_assoc (suc (d * segment + r)) (vl / s) k ∙ ap (λ (x : ℕ). suc (d * segment + r) * x) (mul_comm (vl / s) k) ∙ sym (mul_assoc (suc (d * segment + r)) k (vl / s))
    in
    rw t (le_trans (mul-le-mul_right (vl / s) q) (mul-div-le vl s))

-- so an index of a segment that fits is one of Zn's
pub place_inside : (k s vl d segment r e : ℕ) → 0 < k → d * suc segment * k ≤ s → r < d → e < vl / s → position_of s vl d segment r e < vl / k
place_inside k s vl d segment r e p i l h =
    let q : suc (d * segment + r) * (vl / s) ≤ vl / k = (le-div_iff_mul-le p).1 (up_to k s vl d segment r i l) in
    let m = suc-mul (d * segment + r) (vl / s) in omega arith

-- and every segment that an index names fits: it is below s/(k·d)
pub segment_inside : (k s d i : ℕ) → 0 < k * d → k * d ≤ s → d * suc (segment_of k s d i) * k ≤ s
segment_inside k s d i p h =
    let n = s / (k * d) in
    let l : suc (segment_of k s d i) ≤ n = mod-lt i ((le-div_iff_mul-le p).1 (rw (one-mul (k * d)) h)) in
    let t : d * suc (segment_of k s d i) * k ≡ suc (segment_of k s d i) * (k * d) =
    mul_comm (d * suc (segment_of k s d i)) k ∙ sym (mul_assoc k d (suc (segment_of k s d i))) ∙ mul_comm (k * d) (suc (segment_of k s d i))
    in
    rw t (le_trans (mul-le-mul_right (k * d) l) (div-mul-le_self s (k * d)))

pub position_inside : PositionInside
position_inside k s vl d i r e p h l b =
    let q : 0 < k * d = mul-pos p (omega arith) in
    place_inside k s vl d (segment_of k s d i) r e p (segment_inside k s d i q h) l b

pub seven_never_comes : SevenNeverComes
seven_never_comes s vl i1 r e h l b = position_inside 4 s vl 4 i1 r e (lit< tt) (size_bounds h).0 l b

-- the bytes of indexes of a destination say its elements, two each
pub each_is : {s : ℕ} (vl : ℕ) → vl % 128 ≡ 0 → Result s → vl / s * 4 / 8 * 2 ≡ vl / s
each_is {s} vl e r =
    let f : vl / 16 ≡ 8 * (vl / 128) = omega arith in
    let g : vl / 32 ≡ 4 * (vl / 128) = omega arith in
    ⊎_elim (λ (b : s ≡ 16). rw (b, f) (omega arith)) (λ (b : s ≡ 32). rw (b, g) (omega arith)) r

-- a register's elements are its bytes
pub elements_are : {s : ℕ} (vl : ℕ) → vl % 128 ≡ 0 → Result s → vl / s * (s / 8) ≡ vl / 8
elements_are vl e r = ⊎_elim (λ b. rw b (omega arith)) (λ b. rw b (omega arith)) r

-- the element's width of a size
pub element_of_lem : {w : ℕ} → Result (8 * w) → ElementBytes w
element_of_lem r = ⊎_map (λ b. omega arith) (λ b. omega arith) r

-- a destination's bytes of indexes, by the element's width
pub each_by : {w : ℕ} (vl : ℕ) → ElementBytes w → vl / (16 * w) ≡ vl / (8 * w) * 4 / 8
each_by vl h = ⊎_elim (λ b. rw b (omega arith)) (λ b. rw b (omega arith)) h

-- what the code's arithmetic asks at destination r, which has `each` bytes of indexes
pub record Turn (vl d segment first stride each r : ℕ) : Type 0 where
  pub number : d * segment + r < 32
  pub register : first + stride * r < 32
  pub inside : (d * segment + r) * each + each ≤ vl / 8

module _ {file vl k s d segment zn first stride : ℕ} (op : LutiReady file vl k s d segment zn first stride) (r : ℕ) (l : r < d) where
  number : d * segment + r < 32
  number =
      let m : d * suc segment ≡ d * segment + d = mul-suc d segment in
      let p : suc (d * segment + r) ≤ d * suc segment = omega arith in
      let q : suc (d * segment + r) * k ≤ s = le_trans (mul-le-mul_right k p) op.inside in
      let t : suc (d * segment + r) * 2 ≤ suc (d * segment + r) * k = mul-le-mul_left (suc (d * segment + r)) (⊎_elim (λ a. omega arith) (λ a. omega arith) op.kind) in
      let b = size_bounds op.result in omega arith

  register : first + stride * r < 32
  register = let q : stride * suc r ≤ stride * d = mul-le-mul_left stride l in let m = mul-suc stride r in let t = op.to in omega arith

  bytes_inside : (d * segment + r) * (vl / s * k / 8) + vl / s * k / 8 ≤ vl / 8
  bytes_inside =
      let n = suc (d * segment + r) in
      let h : n * (vl / s * k) ≤ vl = rw (← mul_assoc n (vl / s) k) (up_to k s vl d segment r op.inside l) in
      let g : n * (vl / s * k / 8) * 8 ≤ n * (vl / s * k) = rw (mul_assoc n (vl / s * k / 8) 8) (mul-le-mul_left n (div-mul-le_self (vl / s * k) 8)) in
      let q : n * (vl / s * k / 8) ≤ vl / 8 = (le-div_iff_mul-le (lit< tt)).1 (le_trans g h) in
      let m = suc-mul (d * segment + r) (vl / s * k / 8) in omega arith

  pub turn_at : {each : ℕ} → each ≡ vl / s * k / 8 → Turn vl d segment first stride each r
  turn_at e = record { number = number; register = register; inside = rw e bytes_inside }
