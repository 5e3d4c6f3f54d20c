-- What the test before the index unit says of VL and size, and the unit's numbers where it says yes.
use Rattle.std.proofs.Common.{◌≡◌, ℕ, ◌+◌, ◌-◌, ◌/◌, ◌%◌, ◌^◌, ◌<◌, true, sym, ◌∙◌, mod-lt, ltb-true, lt-ltb}
use Rattle.setting.specs.Allowed.{length_allowed}
use Rattle.logic.specs.Pick.{pick}
use Rattle.element.specs.Size.{is_size}
use Rattle.element.specs.Units.{size_at}
use Rattle.element.proofs.Tests.{both_yes}
use Rattle.element.proofs.Units.{elements, at_log, is_size_at}
use Rattle.index.specs.Index.{index_of, adder_sum, index_mask, has_unit, no_unit, unit_of}
use Rattle.index.proofs.Adder.{some_elements}

pub ready : (vl log : ℕ) → has_unit vl (size_at log) ≡ true → (log < 4) × (length_allowed vl ≡ true)
ready vl log h =
    let b = both_yes (length_allowed vl) (is_size (size_at log)) h in
    (ltb-true log 4 (sym (is_size_at log) ∙ b.1), b.0)

pub has : (vl log : ℕ) → log < 4 → length_allowed vl ≡ true → has_unit vl (size_at log) ≡ true
has vl log small allowed = rw (allowed, is_size_at log ∙ lt-ltb log 4 small)

pub numbers : (vl log w offset s m i : ℕ) → has_unit vl (size_at log) ≡ true
    → s ≡ (w + offset) % 2 ^ 32
    → m ≡ vl / 8 / 2 ^ log - 1
    → i ≡ (w + offset) % (vl / 8 / 2 ^ log)
    → record { sum = s; mask = m; index = i } ≡ pick (has_unit vl (size_at log)) (unit_of vl (size_at log) w offset) no_unit
unfolding adder_sum index_mask index_of
numbers vl log w offset s m i h a b c = rw (h, elements vl (at_log log (ready vl log h).0), a, b, c)

-- the index is an element's
pub index_below : (vl log sum : ℕ) → log < 4 → length_allowed vl ≡ true → index_of vl (size_at log) sum < vl / 8 / 2 ^ log
unfolding index_of
index_below vl log sum small allowed = rw (elements vl (at_log log small)) (mod-lt sum (some_elements vl log small allowed))
