-- Element sizes, PSEL's offset, a strided Zd, a narrowing word's shift and a flag as the bits that say them, and back: by cases on the sizes, and by tests over all values of the bits.
use mathlib.Core.Path.{◌≡◌, refl, ap}
use mathlib.Core.Bool.{Bool, true, false, not, ◌&&◌, ◌||◌}
use Prim.Native.Nat.{ℕ, zero, suc, ◌+◌, ◌-◌, ◌*◌, ◌%◌, ◌/◌, ◌^◌, ◌<◌, ◌≤◌}
use native.Mathlib.Omega.{arith}
use lib.Dec.{T, eqb, ltb, leb, lit<, lit≤, ltb→lt, eqb→eq}
use lib.Count.{count_trailing_zeros}
use borrow.Author.Tests.{eqb-true, ltb-true, leb-true, lt-ltb, le-ltb, le-leb}
use Rattle.element.specs.Size.{size_of, is_size, is_result}
use Rattle.element.specs.Units.{log_of}
use Rattle.element.specs.Contents.{digit}
use Rattle.element.proofs.Below.{both, is_true, below}
use Rattle.element.proofs.Tests.{both_yes}
use Rattle.element.proofs.Units.{size_cases}
use Rattle.encoding.specs.Instructions.{is_z, narrow_in_range, psel_offset, raw_psel_bits, narrow_size, is_set}
use Rattle.encoding.proofs.Apart.{decide}

or_right : (a b : Bool) → a ≡ false → T (a || b) → T b
or_right true b e t = let z : ◌≡◌ {A = ℕ} 0 1 = cc in absurd (omega arith)
or_right false b e t = t

-- ---- a field of one bit
pub digit_lt : (b : Bool) → digit b < 2
digit_lt true = lit< tt
digit_lt false = lit< tt

pub set_digit : (b : Bool) → is_set (digit b) ≡ b
set_digit true = refl
set_digit false = refl

pub digit_set : (n : ℕ) → n < 2 → digit (is_set n) ≡ n
digit_set zero h = refl
digit_set (suc zero) h = refl
digit_set (suc (suc n)) h = absurd (omega arith)

-- ---- element sizes
pub log_size : (s : ℕ) → s < 4 → (log_of (8 * 2 ^ s) ≡ s) × (is_size (8 * 2 ^ s) ≡ true)
log_size zero h = (refl, refl)
log_size (suc zero) h = (refl, refl)
log_size (suc (suc zero)) h = (refl, refl)
log_size (suc (suc (suc zero))) h = (refl, refl)
log_size (suc (suc (suc (suc n)))) h = absurd (omega arith)

-- ---- PSEL: the bits i1:tszh:tszl, by a test over all of them and one over the offsets of each size
bits_of : ℕ → ℕ → Bool
unfolding size_of count_trailing_zeros
bits_of n o = ltb (raw_psel_bits n o) 32 && not (eqb (raw_psel_bits n o % 16) 0) && (eqb (size_of (raw_psel_bits n o)) n && eqb (psel_offset (raw_psel_bits n o)) o)

pub record PselBits (size offset : ℕ) : Type 0 where
  pub lt : raw_psel_bits size offset < 32
  pub some : not (eqb (raw_psel_bits size offset % 16) 0) ≡ true
  pub size_back : size_of (raw_psel_bits size offset) ≡ size
  pub offset_back : psel_offset (raw_psel_bits size offset) ≡ offset

tested_bits : (n o : ℕ) → T (bits_of n o) → PselBits n o
unfolding bits_of size_of count_trailing_zeros
tested_bits n o t =
    let a = both (ltb (raw_psel_bits n o) 32 && not (eqb (raw_psel_bits n o % 16) 0)) (eqb (size_of (raw_psel_bits n o)) n && eqb (psel_offset (raw_psel_bits n o)) o) t in
    let b = both (ltb (raw_psel_bits n o) 32) (not (eqb (raw_psel_bits n o % 16) 0)) a.0 in
    let c = both (eqb (size_of (raw_psel_bits n o)) n) (eqb (psel_offset (raw_psel_bits n o)) o) a.1 in
    record { lt = ltb→lt (raw_psel_bits n o) 32 b.0; some = is_true (not (eqb (raw_psel_bits n o % 16) 0)) b.1; size_back = eqb→eq (size_of (raw_psel_bits n o)) n c.0; offset_back = eqb→eq (psel_offset (raw_psel_bits n o)) o c.1 }

pub psel_bits_lem : (n : ℕ) → is_size n ≡ true → (o : ℕ) → o < 128 / n → PselBits n o
unfolding bits_of size_of count_trailing_zeros
psel_bits_lem =
    size_cases (λ n. (o : ℕ) → o < 128 / n → PselBits n o)
    (λ o h. tested_bits 8 o (below (bits_of 8) 16 tt o h)) (λ o h. tested_bits 16 o (below (bits_of 16) 8 tt o h))
    (λ o h. tested_bits 32 o (below (bits_of 32) 4 tt o h)) (λ o h. tested_bits 64 o (below (bits_of 64) 2 tt o h))

bits_read : ℕ → Bool
unfolding size_of count_trailing_zeros
bits_read t = eqb (t % 16) 0 || (is_size (size_of t) && ltb (psel_offset t) (128 / size_of t) && eqb (raw_psel_bits (size_of t) (psel_offset t)) t)

pub record BitsRead (t : ℕ) : Type 0 where
  pub size : is_size (size_of t) ≡ true
  pub offset : ltb (psel_offset t) (128 / size_of t) ≡ true
  pub back : raw_psel_bits (size_of t) (psel_offset t) ≡ t

pub psel_read : (t : ℕ) → t < 32 → eqb (t % 16) 0 ≡ false → BitsRead t
unfolding bits_read size_of count_trailing_zeros
psel_read t h n =
    let a : T (is_size (size_of t) && ltb (psel_offset t) (128 / size_of t) && eqb (raw_psel_bits (size_of t) (psel_offset t)) t) = or_right (eqb (t % 16) 0) _ n (below bits_read 32 tt t h) in
    let b = both (is_size (size_of t) && ltb (psel_offset t) (128 / size_of t)) (eqb (raw_psel_bits (size_of t) (psel_offset t)) t) a in
    let c = both (is_size (size_of t)) (ltb (psel_offset t) (128 / size_of t)) b.0 in
    record { size = is_true (is_size (size_of t)) c.0; offset = is_true (ltb (psel_offset t) (128 / size_of t)) c.1; back = eqb→eq (raw_psel_bits (size_of t) (psel_offset t)) t b.1 }

pub some_size : (n : ℕ) → is_size n ≡ true → 0 < n
some_size = size_cases (λ n. 0 < n) (lit< tt) (lit< tt) (lit< tt) (lit< tt)

-- ---- LUTI4: its sizes, and the strided first register
pub record LutiSize (n : ℕ) : Type 0 where
  pub lt : log_of n < 4
  pub one_of : (eqb (log_of n) 1 || eqb (log_of n) 2) ≡ true
  pub back : 8 * 2 ^ log_of n ≡ n

pub luti_size : (n : ℕ) → (eqb n 16 || eqb n 32) ≡ true → LutiSize n
luti_size n e =
    decide (eqb n 16) (λ h. rw (eqb-true n 16 h) (record { lt = lit< tt; one_of = refl; back = refl }))
    (λ h. rw (eqb-true n 32 (simp h at e)) (record { lt = lit< tt; one_of = refl; back = refl }))

pub size_luti : (s : ℕ) → (eqb s 1 || eqb s 2) ≡ true → ((eqb (8 * 2 ^ s) 16 || eqb (8 * 2 ^ s) 32) ≡ true) × (log_of (8 * 2 ^ s) ≡ s)
size_luti s e = decide (eqb s 1) (λ h. rw (eqb-true s 1 h) (refl, refl)) (λ h. rw (eqb-true s 2 (simp h at e)) (refl, refl))

-- 0..3 or 16..19, as D and the low two bits
pub strided_zd : (zd : ℕ) → (ltb zd 4 || (leb 16 zd && ltb zd 20)) ≡ true → (zd / 16 < 2) × (zd % 16 < 4)
strided_zd zd e =
    decide (ltb zd 4) (λ h. let l = ltb-true zd 4 h in (omega arith, omega arith))
    (λ h. let p = both_yes (leb 16 zd) (ltb zd 20) (simp h at e) in let g = leb-true 16 zd p.0 in let l = ltb-true zd 20 p.1 in (omega arith, omega arith))

pub zd_strided : (D d : ℕ) → D < 2 → d < 4 → (ltb (16 * D + d) 4 || (leb 16 (16 * D + d) && ltb (16 * D + d) 20)) ≡ true
zd_strided zero d hD hd = let l : 16 * 0 + d < 4 = omega arith in simp (lt-ltb (16 * 0 + d) 4 l)
zd_strided (suc zero) d hD hd =
    let n : 4 ≤ 16 * 1 + d = omega arith in
    let g : 16 ≤ 16 * 1 + d = omega arith in
    let l : 16 * 1 + d < 20 = omega arith in
    simp (le-ltb (16 * 1 + d) 4 n, le-leb 16 (16 * 1 + d) g, lt-ltb (16 * 1 + d) 20 l)
zd_strided (suc (suc D)) d hD hd = absurd (omega arith)

-- ---- the narrowing words: the bits tszh:tszl:imm3, by a test over all of them and one over the shifts of each size
shift_bits : ℕ → ℕ → Bool
shift_bits n k = not (leb 1 k && leb k n) || (ltb (2 * n - k) 64 && not (eqb ((2 * n - k) / 8) 0) && (eqb (narrow_size ((2 * n - k) / 8)) n && eqb (2 * n - (2 * n - k)) k))

pub record ShiftBits (n k : ℕ) : Type 0 where
  pub lt : 2 * n - k < 64
  pub some : not (eqb ((2 * n - k) / 8) 0) ≡ true
  pub size_back : narrow_size ((2 * n - k) / 8) ≡ n
  pub shift_back : 2 * n - (2 * n - k) ≡ k

tested_shift : (n k : ℕ) → (leb 1 k && leb k n) ≡ true → T (shift_bits n k) → ShiftBits n k
unfolding shift_bits
tested_shift n k h t =
    let a = or_right (not (leb 1 k && leb k n)) _ (ap not h) t in
    let b = both (ltb (2 * n - k) 64 && not (eqb ((2 * n - k) / 8) 0)) (eqb (narrow_size ((2 * n - k) / 8)) n && eqb (2 * n - (2 * n - k)) k) a in
    let c = both (ltb (2 * n - k) 64) (not (eqb ((2 * n - k) / 8) 0)) b.0 in
    let d = both (eqb (narrow_size ((2 * n - k) / 8)) n) (eqb (2 * n - (2 * n - k)) k) b.1 in
    record { lt = ltb→lt (2 * n - k) 64 c.0; some = is_true (not (eqb ((2 * n - k) / 8) 0)) c.1; size_back = eqb→eq (narrow_size ((2 * n - k) / 8)) n d.0; shift_back = eqb→eq (2 * n - (2 * n - k)) k d.1 }

pub narrow_cases : (P : ℕ → Type 0) → P 8 → P 16 → P 32 → (n : ℕ) → is_result n ≡ true → P n
narrow_cases P a b c n =
    decide (eqb n 8) (λ e _. rw (eqb-true n 8 e) a)
    (λ e. decide (eqb n 16) (λ e' _. rw (eqb-true n 16 e') b) (λ e' h. rw (eqb-true n 32 (simp (e, e') at h)) c))

shift_lt : (n k : ℕ) → n ≤ 32 → (leb 1 k && leb k n) ≡ true → k < 33
shift_lt n k l h = let u = leb-true k n (both_yes (leb 1 k) (leb k n) h).1 in omega arith

pub narrow_bits : (n : ℕ) → is_result n ≡ true → (k : ℕ) → (leb 1 k && leb k n) ≡ true → ShiftBits n k
unfolding shift_bits
narrow_bits =
    narrow_cases (λ n. (k : ℕ) → (leb 1 k && leb k n) ≡ true → ShiftBits n k)
    (λ k h. tested_shift 8 k h (below (shift_bits 8) 33 tt k (shift_lt 8 k (lit≤ tt) h)))
    (λ k h. tested_shift 16 k h (below (shift_bits 16) 33 tt k (shift_lt 16 k (lit≤ tt) h)))
    (λ k h. tested_shift 32 k h (below (shift_bits 32) 33 tt k (shift_lt 32 k (lit≤ tt) h)))

bits_shift : ℕ → Bool
bits_shift v = eqb (v / 8) 0 || (narrow_in_range (narrow_size (v / 8)) (2 * narrow_size (v / 8) - v) 0 0 && eqb (2 * narrow_size (v / 8) - (2 * narrow_size (v / 8) - v)) v)

-- of tszh:tszl and of tszh:tszl:imm3
pub record ShiftRead (tsz v : ℕ) : Type 0 where
  pub size : is_result (narrow_size tsz) ≡ true
  pub shift : (leb 1 (2 * narrow_size tsz - v) && leb (2 * narrow_size tsz - v) (narrow_size tsz)) ≡ true
  pub back : 2 * narrow_size tsz - (2 * narrow_size tsz - v) ≡ v

pub narrow_read : (v : ℕ) → v < 64 → eqb (v / 8) 0 ≡ false → ShiftRead (v / 8) v
unfolding bits_shift
narrow_read v h n =
    let s = narrow_size (v / 8) in
    let size : Bool = is_result s in
    let shift : Bool = leb 1 (2 * s - v) && leb (2 * s - v) s in
    let a = both (size && shift && (is_z 0 && is_z 0)) (eqb (2 * s - (2 * s - v)) v) (or_right (eqb (v / 8) 0) _ n (below bits_shift 64 tt v h)) in
    let b = both (size && shift) (is_z 0 && is_z 0) a.0 in
    let c = both size shift b.0 in
    record { size = is_true size c.0; shift = is_true shift c.1; back = eqb→eq (2 * s - (2 * s - v)) v a.1 }

pub narrow_size_le : (tsz : ℕ) → narrow_size tsz ≤ 32
narrow_size_le tsz = decide (ltb tsz 2) (λ e. simp e (lit≤ tt)) (λ e. decide (ltb tsz 4) (λ e'. simp (e, e') (lit≤ tt)) (λ e'. simp (e, e') (lit≤ tt)))

-- the shift's difference does not go below 0
pub shift_bits_le : (tsz m : ℕ) → tsz < 8 → m < 8 → tsz * 8 + m ≤ 2 * narrow_size tsz
shift_bits_le tsz m ht hm =
    decide (ltb tsz 2) (λ e. let l = ltb-true tsz 2 e in simp e (omega arith))
    (λ e. decide (ltb tsz 4) (λ e'. let l = ltb-true tsz 4 e' in simp (e, e') (omega arith)) (λ e'. simp (e, e') (omega arith)))
