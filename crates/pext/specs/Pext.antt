-- Document 01, "PEXT": what the source's contents give, when the bench takes the operands, and the file as it leaves it.
use Rattle.std.specs.Prelude.{Bool, ◌&&◌, ◌||◌, List, ℕ, zero, suc, ◌+◌, ◌/◌, ◌%◌, eqb, leb, ltb, length}
use Rattle.setting.specs.Allowed.{length_allowed}
use Rattle.logic.specs.Pick.{pick}
use Rattle.element.specs.Size.{is_size}
use Rattle.element.specs.Contents.{elem}
use Rattle.element.specs.Slots.{slot, set_slot}
use Rattle.element.specs.Files.{predicate_file}
use Rattle.counter.specs.Portion.{portion_of}

-- a destination's contents from the source's, whose low sixteen bits are the counter
unfoldable pub pext_of : ℕ → ℕ → ℕ → List ℕ → List ℕ
pext_of vl size portion c = portion_of vl size portion (elem 2 0 c)

-- n portions of the contents c: portion first + k to P((Pd + k) mod 16)
unfoldable pub pext_slots : ℕ → ℕ → ℕ → ℕ → List ℕ → ℕ → List ℕ → List ℕ
pext_slots vl size first pd c zero f = f
pext_slots vl size first pd c (suc n) f = set_slot 32 (vl / 64) ((pd + n) % 16) (pext_of vl size (first + n) c) (pext_slots vl size first pd c n f)

-- the file has its length, an allowed VL, one of the four sizes, one or two of the four portions, and registers
unfoldable pub pext_ready : ℕ → ℕ → ℕ → ℕ → ℕ → ℕ → ℕ → Bool
pext_ready bytes vl size first portions pn pd = eqb bytes predicate_file && length_allowed vl && is_size size && (eqb portions 1 || eqb portions 2) && leb (first + portions) 4 && (ltb pn 16 && ltb pd 16)

-- the source is read from the file as it was
unfoldable pub pext_leaves : ℕ → ℕ → ℕ → ℕ → ℕ → ℕ → List ℕ → List ℕ
pext_leaves vl size first portions pn pd f = pick (pext_ready (length f) vl size first portions pn pd) (pext_slots vl size first pd (slot 32 (vl / 64) pn f) portions f) f
