-- Document 01, "The machine": the lent files and the scalars, and each register as a slot of a bank.
use Rattle.std.specs.Prelude.{Bool, List, [], ◌∷◌, ℕ, ◌+◌, ◌-◌, ◌/◌, ◌%◌, ◌^◌, get_or}
use Rattle.element.specs.Files.{table_file}
use Rattle.element.specs.Slots.{slot, set_slot}
use Rattle.order.specs.Banks.{Register, change}
use Rattle.machine.specs.declared.Scalars.{Scalars}

pub record Machine : Type 0 where
  pub z : List ℕ
  pub p : List ℕ
  pub zt : List ℕ
  pub scalars : Scalars

abbrev pub machine : List ℕ → List ℕ → List ℕ → Scalars → Machine
machine z p zt s = record { z = z; p = p; zt = zt; scalars = s }

abbrev pub scalars_of : ℕ → ℕ → ℕ → ℕ → ℕ → Bool → Bool → Bool → Scalars
scalars_of w12 w13 w14 w15 pc v s t = record { w12 = w12; w13 = w13; w14 = w14; w15 = w15; pc = pc; v = v; s = s; t = t }

-- banks: 0 vectors, 1 predicates, 2 the table, 3 the index registers W12 to W15
abbrev pub Z : ℕ → Register
Z k = record { bank = 0; at = k }

abbrev pub P : ℕ → Register
P k = record { bank = 1; at = k }

abbrev pub ZT0 : Register
ZT0 = record { bank = 2; at = 0 }

abbrev pub W : ℕ → Register
W k = record { bank = 3; at = k - 12 }

-- by bank: how far its slots are apart, how much of a slot a word touches, and its file
abbrev pub gap : ℕ → ℕ
gap b = get_or (256 ∷ 32 ∷ table_file ∷ 1 ∷ []) b 1

abbrev pub slot_used : ℕ → ℕ → ℕ
slot_used vl b = get_or (vl / 8 ∷ vl / 64 ∷ table_file ∷ 1 ∷ []) b 1

abbrev pub files : Machine → List (List ℕ)
files m = m.z ∷ m.p ∷ m.zt ∷ (m.scalars.w12 ∷ m.scalars.w13 ∷ m.scalars.w14 ∷ m.scalars.w15 ∷ []) ∷ []

abbrev pub with_indexes : List ℕ → Scalars → Scalars
with_indexes l s = record { w12 = get_or l 0 0; w13 = get_or l 1 0; w14 = get_or l 2 0; w15 = get_or l 3 0; pc = s.pc; v = s.v; s = s.s; t = s.t }

abbrev pub with_files : List (List ℕ) → Machine → Machine
with_files l m = record { z = get_or l 0 []; p = get_or l 1 []; zt = get_or l 2 []; scalars = with_indexes (get_or l 3 []) m.scalars }

-- what a register holds, and the machine with it set
unfoldable pub get : ℕ → Register → Machine → List ℕ
get vl r m = slot (gap r.bank) (slot_used vl r.bank) r.at (get_or (files m) r.bank [])

unfoldable pub put : ℕ → Register → List ℕ → Machine → Machine
put vl r c m = with_files (change r.bank (set_slot (gap r.bank) (slot_used vl r.bank) r.at c) (files m)) m

-- an accepted word adds 4 to PC; the sum wraps
abbrev pub advanced : Scalars → Scalars
advanced s = record { w12 = s.w12; w13 = s.w13; w14 = s.w14; w15 = s.w15; pc = (s.pc + 4) % 2 ^ 64; v = s.v; s = s.s; t = s.t }

unfoldable pub next : Machine → Machine
next m = record { z = m.z; p = m.p; zt = m.zt; scalars = advanced m.scalars }

pub record Flags : Type 0 where
  pub v : Bool
  pub s : Bool
  pub t : Bool

abbrev pub flags_of : Machine → Flags
flags_of m = record { v = m.scalars.v; s = m.scalars.s; t = m.scalars.t }
