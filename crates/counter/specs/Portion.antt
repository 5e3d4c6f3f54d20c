-- Document 01, "PEXT": portion p of the counter's expansion, at the instruction's own size.
use Rattle.std.specs.Prelude.{Bool, ◌&&◌, List, ℕ, ◌+◌, ◌*◌, ◌/◌, ◌%◌, eqb, ltb}
use Rattle.setting.specs.Allowed.{length_allowed}
use Rattle.element.specs.Size.{is_size}
use Rattle.element.specs.Contents.{packed}
use Rattle.counter.specs.Counter.{expansion_bit}

-- element e of the portion is element p·E + e of the expansion, E being VL/size; both stand at index·size/8
unfoldable pub portion_bit : ℕ → ℕ → ℕ → ℕ → ℕ → Bool
portion_bit vl size p c b = eqb (b % (size / 8)) 0 && expansion_bit vl c ((p * (vl / size) + b / (size / 8)) * (size / 8))

unfoldable pub portion_of : ℕ → ℕ → ℕ → ℕ → List ℕ
portion_of vl size p c = packed (portion_bit vl size p c) (vl / 64)

-- there is such a portion, and it fills a part of `room` bytes
unfoldable pub extractable : ℕ → ℕ → ℕ → ℕ → Bool
extractable vl size p room = length_allowed vl && is_size size && ltb p 4 && eqb room (vl / 64)
