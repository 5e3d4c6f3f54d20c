-- Chunks of 64 bytes of a destination: the bytes of indexes of the chunks, and a turn of the loop over them. Over the element's width.
use mathlib.Core.Path.{◌≡◌, refl, subst, ap, ◌∙◌}
use mathlib.Core.Bool.{true}
use mathlib.Core.Logic.{⊎_elim, inl, inr}
use mathlib.Core.List.{List, ◌++◌}
use Prim.Native.Nat.{ℕ, ◌+◌, ◌-◌, ◌*◌, ◌/◌, ◌≤◌, ◌<◌}
use native.Mathlib.Nat.{mul_assoc, mul-le-mul_right, div-mul-le_self, div-le_self}
use native.Mathlib.Omega.{arith}
use lib.Dec.{lit<}
use lib.ListN.{drop}
use borrow.Rule.Slice.PartMut.{put_mid}
use Rattle.element.specs.Contents.{fill}
use Rattle.element.proofs.Filling.{turn, chunk}
use Rattle.setting.specs.Allowed.{length_allowed}
use Rattle.setting.proofs.Lengths.{length_cases}
use Rattle.lookup.specs.Private.{ElementBytes, Chunked}
use Rattle.lookup.proofs.Lookups.{sizes}

-- every allowed length has less than a chunk of a destination, or some
pub chunked : {w : ℕ} (vl : ℕ) → length_allowed vl ≡ true → ElementBytes w → Chunked (vl / (16 * w)) w
chunked {w} vl h =
    ⊎_elim
    (λ (e : w ≡ 2). rw e (length_cases (λ (v : ℕ). Chunked (v / 32) 2) (inl (lit< tt)) (inl (lit< tt)) (inr refl) (inr refl) (inr refl) vl h))
    (λ (e : w ≡ 4). rw e (length_cases (λ (v : ℕ). Chunked (v / 64) 4) (inl (lit< tt)) (inl (lit< tt)) (inr refl) (inr refl) (inr refl) vl h))

-- the n chunks of a source
pub record Chunks (source w n : ℕ) : Type 0 where
  pub few : n ≤ source
  pub within : n * (32 / w) ≤ source
  pub room : n * 64 ≤ source * (2 * w)

-- a chunk's elements are its bytes
pub chunk_elements : {w : ℕ} → ElementBytes w → 32 / w * 2 * w ≡ 64
chunk_elements {w} v = mul_assoc (32 / w) 2 w ∙ (sizes v).chunk

pub chunk_bytes : {w : ℕ} (n : ℕ) → ElementBytes w → n * (32 / w) * (2 * w) ≡ n * 64
chunk_bytes {w} n v = mul_assoc n (32 / w) (2 * w) ∙ ap (λ (x : ℕ). n * x) (sizes v).chunk

pub chunks_of : {w : ℕ} (source : ℕ) → ElementBytes w → Chunks source w (source / (32 / w))
chunks_of {w} source v =
    let n = source / (32 / w) in
    let h : n * (32 / w) ≤ source = div-mul-le_self source (32 / w) in
    let b = chunk_bytes n v in
    let g : n * (32 / w) * (2 * w) ≤ source * (2 * w) = mul-le-mul_right (2 * w) h in
    record { few = div-le_self source (32 / w); within = h; room = omega arith }

-- chunk q is one of them
pub chunk_within : {source w : ℕ} (n q : ℕ) → Chunks source w n → q < n → q * (32 / w) + 32 / w ≤ source
chunk_within {source} {w} n q h l = omega (arith, turn q n (32 / w) l, h.within)

module _ (f : ℕ → ℕ) (w : ℕ) where
  -- a turn: the part of chunk q comes back with its elements
  pub chunk_again : (per size q : ℕ) (o₀ o ys : List ℕ)
      → per * w ≡ size
      → o ≡ fill f w (q * per) ++ drop (q * size) o₀
      → ys ≡ fill (λ j. f (q * per + j)) w per
      → put_mid (q * size) (q * size + size - q * size) o ys ≡ fill f w ((q + 1) * per) ++ drop ((q + 1) * size) o₀
  chunk_again per size q o₀ o ys e i y =
      subst (λ (n : ℕ). o ≡ fill f w (q * per) ++ drop (q * n) o₀ → put_mid (q * n) (q * n + n - q * n) o ys ≡ fill f w ((q + 1) * per) ++ drop ((q + 1) * n) o₀) e
      (λ i. chunk f w per q o₀ o ys i y)
      i
