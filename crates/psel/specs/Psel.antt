-- Document 02, request 2, PSEL Pd, Pn, Pm.T[Wv, imm]: what the contents of Pn and Pm give, when the bench takes the operands, and the file as it leaves it.
-- (The row `psel` says what document 01 calls the word and its fields.)
use Rattle.std.specs.Prelude.{Bool, false, ◌&&◌, List, ℕ, ◌+◌, ◌*◌, ◌/◌, eqb, ltb, length}
use Rattle.setting.specs.Allowed.{length_allowed}
use Rattle.logic.specs.Pick.{pick}
use Rattle.element.specs.Size.{is_size}
use Rattle.element.specs.Contents.{bit, packed}
use Rattle.element.specs.Slots.{slot, set_slot}
use Rattle.element.specs.Files.{predicate_file}
use Rattle.index.specs.Index.{index_of}

-- the chosen element of Pm, sum being W + offset
unfoldable pub value_of : ℕ → ℕ → ℕ → List ℕ → Bool
value_of vl size sum pm = bit (index_of vl size sum * (size / 8)) pm

-- the destination's contents: if that element is true all of Pn, also the bits between elements, else all zeros
unfoldable pub psel_of : ℕ → ℕ → ℕ → List ℕ → List ℕ → List ℕ
psel_of vl size sum pn pm = pick (value_of vl size sum pm) pn (packed (λ b. false) (vl / 64))

-- the file has its length, an allowed VL, one of the four sizes, an offset of four bits, and registers
unfoldable pub psel_ready : ℕ → ℕ → ℕ → ℕ → ℕ → ℕ → ℕ → Bool
psel_ready bytes vl size offset pn pm pd = eqb bytes predicate_file && length_allowed vl && is_size size && ltb offset 16 && (ltb pn 16 && ltb pm 16 && ltb pd 16)

-- both sources are read from the file as it was
unfoldable pub psel_leaves : ℕ → ℕ → ℕ → ℕ → ℕ → ℕ → ℕ → List ℕ → List ℕ
psel_leaves vl size w offset pn pm pd f =
    pick (psel_ready (length f) vl size offset pn pm pd) (set_slot 32 (vl / 64) pd (psel_of vl size (w + offset) (slot 32 (vl / 64) pn f) (slot 32 (vl / 64) pm f)) f) f
