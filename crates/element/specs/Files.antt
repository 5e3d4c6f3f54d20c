-- Document 01, "The machine": the length of each lent file, in bytes.
use Rattle.std.specs.Prelude.{ℕ}

-- 32 slots of 256 bytes
abbrev pub vector_file : ℕ
vector_file = 8192

-- 16 slots of 32 bytes
abbrev pub predicate_file : ℕ
predicate_file = 512

-- ZT0
abbrev pub table_file : ℕ
table_file = 64
