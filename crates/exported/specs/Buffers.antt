-- What is left of a part in a lent buffer of bytes.
use Rattle.std.specs.Prelude.{List, [], ℕ, ltb, length}
use Rattle.logic.specs.Pick.{pick}

-- nothing of a part that is longer than the buffer
abbrev pub fitting : List ℕ → List ℕ → List ℕ
fitting part out = pick (ltb (length out) (length part)) [] part
