-- `index` meets its contract: the adder that wraps, under the mask, is the sum modulo the number of elements.
use Rattle.std.proofs.Common.{◌≡◌, ◌+◌, ◌%◌, ◌/◌, ◌^◌, mod-lt}
use lib.Bits.{bit_and}
use Rattle.index.proofs.Adder.{elements_divide, some_elements, low_bits}
use Rattle.index.proofs.index.Goals as goal

pub returns : goal.returns
returns c =
    let a = c.args in
    let r = c.requires in
    let n = a.vl / 8 / 2 ^ a.z in
    let e : bit_and ((a.w + a.offset) % 2 ^ 32) c.mask.result ≡ (a.w + a.offset) % n =
    rw c.mask.ensures (low_bits n (a.w + a.offset) (elements_divide a.vl a.z r.0 r.1))
    in
    (e, rw e (mod-lt (a.w + a.offset) (some_elements a.vl a.z r.0 r.1)))
