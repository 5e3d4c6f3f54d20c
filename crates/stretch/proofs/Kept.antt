-- What no word changes: the flags and the files' lengths. What a word is refused for hangs on these alone, so words that do not conflict are independent.
use mathlib.Core.Path.{◌≡◌, refl, sym, ◌∙◌, ap}
use mathlib.Core.Bool.{Bool, true}
use mathlib.Core.List.{List, []}
use Prim.Native.Nat.{ℕ, ◌≤◌}
use lib.ListN.{length, get_or}
use Rattle.setting.specs.Allowed.{length_allowed, features_allowed, allowed_of}
use Rattle.setting.specs.declared.Setting.{Setting}
use Rattle.logic.specs.Pick.{pick}
use Rattle.element.specs.Slots.{set_slot}
use Rattle.element.proofs.Slots.{set_slot_length}
use Rattle.element.proofs.Tests.{both_yes}
use Rattle.encoding.specs.Decode.{decode_of}
use Rattle.order.specs.Banks.{Register, same_register, change}
use Rattle.order.specs.Touch.{SeparateRegisters, from_reads}
use Rattle.order.specs.Private.{Independent}
use Rattle.order.proofs.Changes.{read_change}
use Rattle.order.proofs.Touches.{independent}
use Rattle.part.proofs.Lengths.{lengths_of}
use Rattle.machine.specs.Machine.{Machine, Flags, gap, slot_used, files, get, put, next, flags_of}
use Rattle.machine.specs.Step.{lengths_are, sized, reads, writes, gives, verdict, refusal_of, exec_of}
use Rattle.machine.proofs.Registers.{registers}
use Rattle.stretch.specs.Conflict.{conflict}

pub record Kept : Type 0 where
  pub flags : Flags
  pub sized : Bool

abbrev kept : Flags → Bool → Kept
kept f b = record { flags = f; sized = b }

abbrev kept_of : Machine → Kept
kept_of m = kept (flags_of m) (sized m)

-- ---- no word changes it
-- a register that is set leaves each file as long as it was
file_kept : (vl a : ℕ) (r : Register) (c : List ℕ) (m : Machine)
    → length (get_or (change r.bank (set_slot (gap r.bank) (slot_used vl r.bank) r.at c) (files m)) a []) ≡ length (get_or (files m) a [])
file_kept vl a r c m =
    read_change a r.bank (set_slot (gap r.bank) (slot_used vl r.bank) r.at c) length [] (files m)
    (λ e x. set_slot_length (gap r.bank) (slot_used vl r.bank) r.at c x)

sized_put : (vl : ℕ) (r : Register) (c : List ℕ) (m : Machine) → sized (put vl r c m) ≡ sized m
unfolding put
sized_put vl r c m =
    ap (λ (n : ℕ). lengths_are n (length (put vl r c m).p) (length (put vl r c m).zt)) (file_kept vl 0 r c m)
    ∙ ap (λ (n : ℕ). lengths_are (length m.z) n (length (put vl r c m).zt)) (file_kept vl 1 r c m)
    ∙ ap (λ (n : ℕ). lengths_are (length m.z) (length m.p) n) (file_kept vl 2 r c m)

kept_laws : (vl : ℕ) → vl ≤ 2048 → SeparateRegisters same_register (get vl) (put vl) next kept_of
unfolding put next
kept_laws vl small =
    let L = registers vl small in
    record {
      get_put = L.get_put;
      put_put = L.put_put;
      get_next = L.get_next;
      put_next = L.put_next;
      flags_put = λ r c m. ap (kept (flags_of m)) (sized_put vl r c m);
      flags_next = λ m. refl;
    }

-- ---- refusals hang on it alone
abbrev refusal_by : Setting → ℕ → Kept → ℕ
refusal_by s w k = pick (allowed_of s) (pick k.sized (verdict s k.flags (decode_of s w)) 2) 1

refusal_by_kept : (s : Setting) (w : ℕ) (m : Machine) → refusal_of s w m ≡ refusal_by s w (kept_of m)
unfolding refusal_of
refusal_by_kept s w m = refl

pub words_independent : (s : Setting) → allowed_of s ≡ true → Independent (refusal_of s) (exec_of s) (conflict s)
unfolding allowed_of exec_of
words_independent s a =
    independent same_register (get s.vl) (put s.vl) next kept_of (kept_laws s.vl (lengths_of s.vl (both_yes (length_allowed s.vl) (features_allowed s.features) a).0).most)
    (reads s) (writes s) (refusal_of s) (from_reads (get s.vl) (reads s) (gives s))
    (λ w m m' e. refusal_by_kept s w m ∙ ap (refusal_by s w) e ∙ sym (refusal_by_kept s w m'))
    (λ w m m' f e. ap (gives s w) e)
