-- A text at the start of a buffer of which the rest is open, and a second one right behind it: by the laws of `take` and `drop` at the seam.
use mathlib.Core.Path.{◌≡◌, sym, ap, ◌∙◌}
use mathlib.Core.List.{List, ◌++◌}
use Prim.Native.Nat.{ℕ, ◌+◌, ◌-◌, ◌≤◌}
use native.Mathlib.Omega.{arith}
use lib.ListN.{length, take, drop, length-append, length-take, take-append-drop}
use lib.Seq.{length-take-le, take-append-le, take-append_seam, take-add, drop_at, drop-drop}
use borrow.Rule.Slice.PartMut.{mid_of, put_mid, take_put, drop_put, mid_len}
use Rattle.listing.specs.Buffer.{Wrote}
use Rattle.listing.specs.Private.{Begins, Began}
use Rattle.listing.proofs.Over.{wrote_more}

pub begins_within : {t a : List ℕ} {r : ℕ} → Begins t a r → r ≤ length a
begins_within b = omega (arith, simp length-take at (ap length b.start), b.count)

pub wrote_begins : {t b a : List ℕ} {r : ℕ} → Wrote t b a r → Begins t a r
wrote_begins w = record { count = w.count; start = rw (w.whole, w.count, take-append_seam) }

-- the second text, as a function meets it that lends the part of the buffer from at to e
pub begins_more : {a b o ys : List ℕ} {at e r : ℕ} → Begins a o at → Begins b ys r → at ≤ e → e ≤ length o → Begins (a ++ b) (put_mid at (e - at) o ys) (at + r)
begins_more {a} {b} {o} {ys} {at} {e} {r} w v l m =
    let post = drop (e - at) (drop at o) in
    let f : at ≤ length o = omega arith in
    record {
      count = omega (arith, length-append a b, w.count, v.count);
      start =
          rw (
            take-add,
            take_put at (e - at) o ys f,
            drop_at (take at o) (ys ++ post) at (length-take-le at o f),
            take-append-le r ys post (begins_within v),
            w.start,
            v.start,
          );
    }

-- buffers that are the same from m on are so from any later place
later : (x y : List ℕ) (m n : ℕ) → m ≤ n → drop m x ≡ drop m y → drop n x ≡ drop n y
later x y m n h e =
    let q : n ≡ m + (n - m) = omega arith in
    rw (q, ← drop-drop (n - m) m x, ← drop-drop (n - m) m y, e)

-- a line of at least 13 bytes in a part of 19 covers the six bytes behind the text before it, and leaves at most six behind its own end
pub began_more : {a b out o ys : List ℕ} {at r : ℕ}
    → Began a out o at
    → Begins b ys r
    → length ys ≡ length (mid_of at (at + 19 - at) o)
    → 13 ≤ r
    → at + 19 ≤ length o
    → Began (a ++ b) out (put_mid at (at + 19 - at) o ys) (at + r)
began_more {a} {b} {out} {o} {ys} {at} {r} w v k g m =
    let p = drop_put at (at + 19) o ys (omega arith) m (k ∙ mid_len at (at + 19) o m) in
    record {
      begins = begins_more {e = at + 19} w.begins v (omega arith) m;
      rest = later _ out (at + 19) (at + r + 6) (omega arith) (p ∙ later o out (at + 6) (at + 19) (omega arith) w.rest);
    }

-- a text of at least six bytes, written exactly, leaves nothing behind its end
pub began_last : {a b out o ys : List ℕ} {at e r : ℕ}
    → Began a out o at
    → Wrote b (mid_of at (e - at) o) ys r
    → length ys ≡ length (mid_of at (e - at) o)
    → 6 ≤ r
    → at ≤ e
    → e ≤ length o
    → Wrote (a ++ b) out (put_mid at (e - at) o ys) (at + r)
began_last {a} {b} {out} {o} {ys} {at} {e} {r} w v k g l m =
    let h : Wrote a o o at =
    record {
      count = w.begins.count;
      whole = sym (take-append-drop at o) ∙ rw (w.begins.start, w.begins.count);
    } in
    let x = wrote_more {e = e} h v k l m in
    let d : drop (at + r) o ≡ drop (at + r) out = later o out (at + 6) (at + r) (omega arith) w.rest in
    record { count = x.count; whole = x.whole ∙ rw (← x.count, d) }
