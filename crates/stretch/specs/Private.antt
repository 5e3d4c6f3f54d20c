-- What the code goes by: a bit for each register that a word touches (Z0 to Z31, P0 to P15, ZT0 and W12 to W15 from the lowest), and the words of a stretch as entries.
use Rattle.std.specs.Prelude.{◌≡◌, Bool, true, false, not, ◌&&◌, ◌||◌, List, [], ◌∷◌, ℕ, ◌+◌, ◌^◌, ◌≤◌, ◌<◌, ltb, length, get_or, take, Result, Ok, Err}
use Rattle.std.specs.List.{list_all}
use Rattle.std.specs.Int.Bits.{bit_or}
use Rattle.element.specs.Private.{shares}
use Rattle.setting.specs.Numbers.{Outcome, accept, refuse, refusal_number}
use Rattle.setting.specs.declared.Setting.{Setting}
use Rattle.setting.specs.declared.Refusal.{Refusal}
use Rattle.order.specs.Banks.{Register}
use Rattle.order.specs.Rearranged.{place}
use Rattle.machine.specs.Machine.{Z, P, ZT0, W}
use Rattle.encoding.specs.Decode.{decode_of}
use Rattle.encoding.specs.declared.Instruction.{Instruction}
use Rattle.machine.specs.Effects.{effect_of}
use Rattle.machine.specs.Step.{reads, writes}
use Rattle.stretch.specs.declared.touch.Register.{Register as Named}
use Rattle.stretch.specs.declared.touch.Register.TheVariants.{Vector, Predicate, Table, Index}
use Rattle.stretch.specs.declared.touch.Touch.{Touch}
use Rattle.stretch.specs.declared.tables.Entry.{Entry}
use Rattle.logic.specs.Every.{all}
use Rattle.stretch.specs.Conflict.{is_read}
use Rattle.stretch.specs.Permission.{all_read}

-- by bank: the bit of its first register
abbrev pub start_of : ℕ → ℕ
start_of b = get_or (0 ∷ 32 ∷ 48 ∷ 49 ∷ []) b 53

unfoldable pub register_bit : Register → ℕ
register_bit r = 2 ^ (start_of r.bank + r.at)

-- a register by its name
abbrev pub register_as : Named → Register
register_as (Vector k) = Z k
register_as (Predicate k) = P k
register_as Table = ZT0
register_as (Index k) = W k

-- there is a register of that name
abbrev pub IsThere : Named → Type 0
IsThere (Vector k) = k < 32
IsThere (Predicate k) = k < 16
IsThere Table = Unit {0}
IsThere (Index k) = (12 ≤ k) × (k < 16)

abbrev pub AllThere : List Named → Type 0
AllThere [] = Unit {0}
AllThere (r ∷ rs) = IsThere r × AllThere rs

-- the bits of the registers of a list
unfoldable pub bits_of : List Register → ℕ
bits_of [] = 0
bits_of (r ∷ rs) = bit_or (register_bit r) (bits_of rs)

abbrev pub joined : ℕ → ℕ → Touch
joined reads writes = record { writes = writes; touched = bit_or reads writes }

abbrev pub touch_by : List Register → List Register → Touch
touch_by reads writes = joined (bits_of reads) (bits_of writes)

-- what a word touches; nothing where it cannot be read
abbrev pub touch_of : Setting → ℕ → Touch
touch_of s w = touch_by (reads s w) (writes s w)

-- the same, or the number that the word is refused with
abbrev pub touch_in : Outcome Instruction → Outcome Touch
touch_in (accept i) = accept (touch_by (effect_of i).reads (effect_of i).writes)
touch_in (refuse n) = refuse n

abbrev pub reading_of : Setting → ℕ → Outcome Touch
reading_of s w = touch_in (decode_of s w)

abbrev pub reading_as : Result Touch Refusal → Outcome Touch
reading_as (Ok t) = accept t
reading_as (Err a) = refuse (refusal_number a)

-- one writes a register that the other reads or writes
abbrev pub clashes : Touch → Touch → Bool
clashes v w = shares v.writes w.touched || shares w.writes v.touched

-- ---- the words as entries
abbrev pub entry : Touch → ℕ → Entry
entry t p = record { touch = t; place = p }

-- the entry at i, or one that touches nothing
abbrev pub entry_at : List Entry → ℕ → Entry
entry_at entries i = get_or entries i (entry (joined 0 0) 0)

-- the first n words are read, and the entries say what each touches; none of these is placed
pub record Told (s : Setting) (words : List ℕ) (n : ℕ) (entries : List Entry) : Type 0 where
  pub long : length entries ≡ length words
  pub read : all (λ i. is_read s (get_or words i 0)) n ≡ true
  pub each : (i : ℕ) → i < n → entry_at entries i ≡ entry (touch_of s (get_or words i 0)) (length words)

-- a word is refused as undefined
pub record UnreadIn (s : Setting) (words : List ℕ) (a : Refusal) : Type 0 where
  pub number : refusal_number a ≡ 3
  pub unread : all_read s words ≡ false

-- each entry has this number for its place
abbrev pub Unplaced : ℕ → List Entry → Type 0
Unplaced n entries = (i : ℕ) → i < length entries → (entry_at entries i).place ≡ n

-- each entry has its place in the order
abbrev pub Placed : List ℕ → List Entry → List Entry → Type 0
Placed order before after = (i : ℕ) → i < length before → entry_at after i ≡ entry (entry_at before i).touch (place i order)

-- the two do not clash, or the earlier still comes first
abbrev pub keeps_entry : Entry → Entry → Bool
keeps_entry earlier later = not (clashes earlier.touch later.touch) || ltb earlier.place later.place

-- the word at j is listed, and behind each earlier one that clashes
abbrev pub stands_at : List Entry → ℕ → Bool
stands_at entries j = ltb (entry_at entries j).place (length entries) && list_all (λ e. keeps_entry e (entry_at entries j)) (take j entries)
