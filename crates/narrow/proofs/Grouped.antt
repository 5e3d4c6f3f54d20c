-- The same bytes in other chunks give the same register: by the product (docs/DECISIONS.md 44: how a register is cut is for the compiler alone).
use mathlib.Core.Path.{◌≡◌}
use Prim.Native.Nat.{ℕ, ◌*◌, ◌≤◌}
use native.Mathlib.Omega.{arith}
use Rattle.narrow.specs.Private.{ChunksReady}

pub grouped_ready : {file n per k p w shift zn zd : ℕ} → k * (p * w) ≡ n * (per * w) → p * w ≤ 256 → ChunksReady file n per w shift zn zd → ChunksReady file k p w shift zn zd
grouped_ready same chunk ready =
    record {
      slots = ready.slots;
      room = rw same ready.room;
      chunk = chunk;
      bytes = ready.bytes;
      low = ready.low;
      high = ready.high;
      from = ready.from;
      to = ready.to;
    }

-- all the elements of two bytes in one chunk
pub flat_bytes : (n : ℕ) → n * (8 * 2) ≡ 1 * (8 * n * 2)
flat_bytes n = omega arith
