-- An accepted call meets what the private functions ask: the files' lengths by the tests, the rest by the operands' type.
use mathlib.Core.Path.{◌≡◌, refl}
use mathlib.Core.Bool.{true, false, ◌&&◌, ◌||◌}
use mathlib.Core.Logic.{⊎_map, inr}
use Prim.Native.Nat.{ℕ, ◌+◌, ◌*◌, ◌≤◌, ◌<◌}
use native.Mathlib.Omega.{arith}
use mathlib.Core.List.{List}
use lib.ListN.{length}
use lib.Dec.{eqb, ltb}
use borrow.Author.Tests.{eqb-true, ltb-true}
use Rattle.setting.specs.Allowed.{length_allowed}
use Rattle.element.specs.Files.{vector_file, table_file}
use Rattle.element.proofs.Tests.{both_yes}
use Rattle.part.proofs.Lengths.{lengths_of}
use Rattle.lookup.specs.Lookup.{index_bits, destinations, segment_of, luti_file}
use Rattle.lookup.specs.Calls.{four_fit, luti4_ready, luti4_file}
use Rattle.lookup.specs.Private.{Accepted, SegmentReady, LutiReady}
use Rattle.lookup.specs.declared.operands.Operands.{Operands}

-- what the tests say
pub record Tested (z zt vl size i1 zn first stride : ℕ) : Type 0 where
  pub slots : z ≡ vector_file
  pub entries : zt ≡ table_file
  pub allowed : length_allowed vl ≡ true
  pub most : vl ≤ 2048
  pub sized : (eqb size 16 || eqb size 32) ≡ true
  pub half : i1 < 2
  pub from : zn < 32
  pub to : first + 3 * stride < 32

pub tested : (z zt vl size i1 zn first stride : ℕ) → luti4_ready z zt vl size i1 zn first stride ≡ true → Tested z zt vl size i1 zn first stride
unfolding luti4_ready
tested z zt vl size i1 zn first stride ready =
    let a = both_yes _ (four_fit first stride) ready in
    let b = both_yes (eqb z vector_file && eqb zt table_file && length_allowed vl) ((eqb size 16 || eqb size 32) && ltb i1 2 && ltb zn 32) a.0 in
    let f = both_yes (eqb z vector_file && eqb zt table_file) (length_allowed vl) b.0 in
    let g = both_yes (eqb z vector_file) (eqb zt table_file) f.0 in
    let n = both_yes ((eqb size 16 || eqb size 32) && ltb i1 2) (ltb zn 32) b.1 in
    let k = both_yes (eqb size 16 || eqb size 32) (ltb i1 2) n.0 in
    let d = both_yes (eqb stride 1 || eqb stride 4) (ltb (first + 3 * stride) 32) a.1 in
    record {
      slots = eqb-true z vector_file g.0;
      entries = eqb-true zt table_file g.1;
      allowed = f.1;
      most = (lengths_of vl f.1).most;
      sized = k.0;
      half = ltb-true i1 2 k.1;
      from = ltb-true zn 32 n.1;
      to = ltb-true (first + 3 * stride) 32 d.1;
    }

pub luti_ready : {file w segment : ℕ} (o : Operands) → SegmentReady file w segment → LutiReady file o.vl index_bits (8 * w) destinations segment o.zn o.first o.stride
luti_ready o s =
    record {
      slots = s.slots;
      allowed = o.allowed;
      lengths = lengths_of o.vl o.allowed;
      kind = inr refl;
      result = ⊎_map (λ b. rw b) (λ b. rw b) s.bytes;
      inside = s.inside;
      from = o.from;
      to = omega (arith, o.to);
    }

-- the file as it is left, by any name of the operands
pub worked : (vl size i1 zn first stride : ℕ) (o : Operands) (zt z q : List ℕ)
    → Accepted o (length z) (length zt) vl size i1 zn first stride
    → q ≡ luti_file index_bits o.size o.vl destinations (segment_of index_bits o.size destinations o.i1) o.zn o.first o.stride zt z destinations
    → q ≡ luti4_file vl size i1 zn first stride zt z
unfolding luti4_file
worked vl size i1 zn first stride o zt z q k h =
    rw k.ready (rw (k.size_is, k.vl_is, k.i1_is, k.zn_is, k.first_is, k.stride_is) at h)

pub untouched : (vl size i1 zn first stride : ℕ) (zt z : List ℕ)
    → luti4_ready (length z) (length zt) vl size i1 zn first stride ≡ false
    → z ≡ luti4_file vl size i1 zn first stride zt z
unfolding luti4_file
untouched vl size i1 zn first stride zt z refused = rw refused
