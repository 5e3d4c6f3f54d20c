-- A text written over the start of a buffer, and a second one right behind it: by the laws of `take` and `drop` at the seam.
use mathlib.Core.Path.{◌≡◌, ap}
use mathlib.Core.List.{List, ◌++◌, append_assoc}
use Prim.Native.Nat.{ℕ, ◌+◌, ◌-◌, ◌≤◌}
use native.Mathlib.Omega.{arith}
use lib.ListN.{length, take, drop, length-append, length-take, length-drop, take-append-drop}
use lib.Seq.{take-append_seam, drop-append_seam, drop-append-le, drop-drop}
use borrow.Rule.Slice.PartMut.{mid_of, put_mid}
use Rattle.listing.specs.Buffer.{over, Wrote}

pub wrote_within : {t b a : List ℕ} {r : ℕ} → Wrote t b a r → r ≤ length a
wrote_within w = omega (arith, simp length-append at (ap length w.whole), w.count)

-- a text that left its buffer as long as it was is no longer than that
pub wrote_fits : {t b a : List ℕ} {r : ℕ} → Wrote t b a r → length a ≡ length b → r ≤ length b
wrote_fits w l = omega (arith, wrote_within w)

pub part_fits : (k : ℕ) (x : List ℕ) {t a : List ℕ} {r : ℕ} → Wrote t (take k x) a r → length a ≡ length (take k x) → r ≤ k
part_fits k x w l = omega (arith, wrote_fits w l, length-take k x)

over_part : (k : ℕ) (b x : List ℕ) → length b ≤ k → k ≤ length x → over b (take k x) ++ drop k x ≡ over b x
over_part k b x h l =
    let f : length b ≤ length (take k x) = simp length-take (omega arith) in
    rw (append_assoc, ← drop-append-le (length b) (take k x) (drop k x) f, take-append-drop)

pub over_more : (k : ℕ) (a b out : List ℕ) → length b ≤ k → length a + k ≤ length out
    → put_mid (length a) k (over a out) (over b (mid_of (length a) k (over a out))) ≡ over (a ++ b) out
over_more k a b out h l =
    let f : k ≤ length (drop (length a) out) = simp length-drop (omega arith) in
    rw (take-append_seam, drop-append_seam, over_part k b (drop (length a) out) h f, drop-drop, length-append, append_assoc)

-- the same, as a function meets it that lends the part of the buffer from at to e
pub wrote_more : {a b out o ys : List ℕ} {at e r : ℕ}
    → Wrote a out o at
    → Wrote b (mid_of at (e - at) o) ys r
    → length ys ≡ length (mid_of at (e - at) o)
    → at ≤ e
    → e ≤ length out
    → Wrote (a ++ b) out (put_mid at (e - at) o ys) (at + r)
wrote_more {a} {b} {out} {o} {ys} {at} {e} {r} w v k l m =
    let f = part_fits (e - at) (drop at o) v k in
    record {
      count = omega (arith, length-append a b, w.count, v.count);
      whole =
          rw (v.whole, w.whole, w.count) (over_more (e - length a) a b out (omega (arith, w.count, v.count)) (omega (arith, w.count)));
    }
