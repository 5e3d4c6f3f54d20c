-- `four_destinations` meets its contract: after r turns the file is the definition's, all of the copy of Zn.
use Rattle.std.proofs.Common.{◌≡◌, ℕ, ◌+◌, ◌*◌, ◌/◌, length, refl, sym, ap, ◌∙◌, arith, length-take, length-drop}
use mathlib.Core.Path.{subst}
use Rattle.element.proofs.Slots.{slot_length, part_length}
use Rattle.lookup.specs.Lookup.{luti_file}
use Rattle.lookup.specs.Private.{Chunked}
use Rattle.lookup.proofs.Ready.{luti_ready}
use Rattle.lookup.proofs.Places.{element_of_lem, each_by, turn_at}
use Rattle.lookup.proofs.Files.{room_is, turned}
use Rattle.lookup.proofs.Chunks.{chunked}
use Rattle.lookup.proofs.table.four_destinations.Goals as goal

pub loop-r-init : goal.loop-r-init
unfolding luti_file
loop-r-init g c = refl

pub look-requires : goal.look-requires
look-requires g c =
    let a = c.args in
    let p = luti_ready a.o c.requires in
    let l = c.loop-r in
    let w = g.row.W in
    let v = element_of_lem p.result in
    let is = each_by a.o.vl v in
    let s = c.slot_of-s in
    let t = turn_at p l.r c.loop-r-test.true is in
    let n : length s.result ≡ 256 = ap length s.ensures ∙ slot_length 256 256 a.o.zn a.z.now (omega arith) in
    let eight : 8 * w / 8 ≡ w = omega arith in (
      record {
        raised = c.raised-high.ensures;
        bytes = v;
        whole =
            part_length 256 (a.o.vl / 8) (a.o.first + a.o.stride * l.r) l.z (omega arith)
            ∙ sym (rw eight at (room_is p is))
            ∙ ap (λ (x : ℕ). x * (2 * w)) (simp (length-take, length-drop) (omega arith));
      },
      subst (λ (x : ℕ). Chunked x w) (simp (length-take, length-drop) (omega arith)) (chunked a.o.vl p.allowed v),
    )

pub loop-r-preserved : goal.loop-r-preserved
loop-r-preserved g c =
    let a = c.args in
    let p = luti_ready a.o c.requires in
    let l = c.loop-r in
    let w = g.row.W in
    let v = element_of_lem p.result in
    let is = each_by a.o.vl v in
    let s = c.slot_of-s in
    let eight : 8 * w / 8 ≡ w = omega arith in
    let t = turn_at p l.r c.loop-r-test.true is in
    turned p is l.r a.zt.now a.z.now l.z s.result _ (omega arith) (omega arith) (omega arith) s.ensures l.invariant (rw eight c.look.ensures)
