-- Packed bits by numbers of sixty-four digits: the numbers' bytes are the packed ones, by a split of the digits into bytes.
use mathlib.Core.Path.{◌≡◌, refl, sym, ap, ap₂, ◌∙◌}
use mathlib.Core.Bool.{Bool}
use mathlib.Core.List.{List, ◌∷◌, ◌++◌, append_assoc}
use Prim.Native.Nat.{ℕ, zero, suc, ◌+◌, ◌-◌, ◌*◌, ◌/◌, ◌%◌, ◌^◌, ◌≤◌}
use native.Mathlib.Nat.{mod-eq_of_lt, mul_left_comm, pow-succ'}
use native.Mathlib.Omega.{arith}
use lib.ListN.{drop}
use lib.Pow.{high, low}
use lib.Seq.{take_at, drop_at, drop-drop}
use borrow.Rule.Slice.PartMut.{put_mid}
use Rattle.element.specs.Contents.{bytes, fill, gather, octet, packed}
use Rattle.element.proofs.Filling.{gather_lt, octet_lt, fill_more, same, packed_length}
use Rattle.element.proofs.Slots.{reach}

module _ (g : ℕ → Bool) where
  -- m digits, and those behind them
  split : (m n i : ℕ) → gather g i (m + n) ≡ gather g (i + m) n * 2 ^ m + gather g i m
  unfolding gather
  split zero n i = let e : i + 0 ≡ i = omega arith in let z : 0 + n ≡ n = omega arith in rw (e, z) (omega arith)
  split (suc m) n i =
      let e : i + 1 + m ≡ i + suc m = omega arith in
      let z : suc m + n ≡ suc (m + n) = omega arith in
      let h = split m n (i + 1) in
      let a : gather g (i + suc m) n * 2 ^ suc m ≡ 2 * (gather g (i + suc m) n * 2 ^ m) = rw pow-succ' (mul_left_comm (gather g (i + suc m) n) 2 (2 ^ m)) in
      rw (z, h, e, a) (omega arith)

  -- the low n bytes of the digits from 8k on are bytes k and on
  octets : (n k r : ℕ) → bytes n (gather g (8 * k) (8 * n + r)) ≡ fill (λ j. octet g (k + j)) 1 n
  unfolding bytes fill octet
  octets zero k r = refl
  octets (suc n) k r =
      let f : ℕ → ℕ = λ j. octet g (k + j) in
      let hi = gather g (8 * k + 8) (8 * n + r) in
      let whole : 8 * suc n + r ≡ 8 + (8 * n + r) = omega arith in
      let next : 8 * k + 8 ≡ 8 * (k + 1) = omega arith in
      let here : k ≡ k + 0 = omega arith in
      let one : 1 + n ≡ suc n = omega arith in
      let x : gather g (8 * k) (8 * suc n + r) ≡ hi * 2 ^ 8 + gather g (8 * k) 8 = ap (gather g (8 * k)) whole ∙ split 8 (8 * n + r) (8 * k) in
      let lo = gather_lt g 8 (8 * k) in
      let first : gather g (8 * k) (8 * suc n + r) % 256 ≡ octet g (k + 0) % 256 = ap (λ (m : ℕ). m % 256) x ∙ low hi 8 lo ∙ sym (mod-eq_of_lt (octet_lt g k)) ∙ ap (λ (m : ℕ). octet g m % 256) here in
      let rest : gather g (8 * k) (8 * suc n + r) / 256 ≡ gather g (8 * (k + 1)) (8 * n + r) = ap (λ (m : ℕ). m / 256) x ∙ high hi 8 lo ∙ ap (λ (i : ℕ). gather g i (8 * n + r)) next in
      let moved = same (λ j. octet g (k + 1 + j)) (λ j. octet g (k + (1 + j))) 1 n (λ j l. let e : k + 1 + j ≡ k + (1 + j) = omega arith in rw e) in
      ap₂ (λ (b : ℕ) (l : List ℕ). b ∷ l) first (ap (bytes n) rest ∙ octets n (k + 1) r ∙ moved) ∙ sym (fill_more f 1 1 n) ∙ ap (fill f 1) one

  -- and so of the first sixty-four, for few bytes
  pub few_bytes : (n : ℕ) → n ≤ 8 → bytes n (gather g 0 64) ≡ packed g n
  unfolding packed
  few_bytes n h =
      let whole : 64 ≡ 8 * n + (64 - 8 * n) = omega arith in
      ap (λ (m : ℕ). bytes n (gather g 0 m)) whole
      ∙ octets n 0 (64 - 8 * n)
      ∙ same (λ j. octet g (0 + j)) (octet g) 1 n (λ j l. let z : 0 + j ≡ j = omega arith in rw z)

  -- a turn: eight bytes come back as the next sixty-four digits
  pub eight_more : (a : ℕ) (o₀ o ys : List ℕ) → o ≡ packed g a ++ drop a o₀ → ys ≡ bytes 8 (gather g (8 * a) 64) → put_mid a (a + 8 - a) o ys ≡ packed g (a + 8) ++ drop (a + 8) o₀
  unfolding packed
  eight_more a o₀ o ys e ey =
      let l = packed_length g a in
      rw (reach a 8, e, ey, take_at (packed g a) (drop a o₀) a l, drop_at (packed g a) (drop a o₀) a l, drop-drop, octets 8 a 0, fill_more (octet g) 1 a 8, append_assoc)
