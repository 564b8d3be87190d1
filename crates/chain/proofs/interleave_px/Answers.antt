-- `interleave_px` meets its contract: coding and then the pass, upon the channel's buffers. Assumes nothing.
use mathlib.Core.Path.{sym, ap, ◌∙◌}
use Prim.Native.Nat.{ℕ, ◌*◌, ◌/◌}
use native.Mathlib.Omega.{arith}
use lib.ListN.{length}
use lib.Seq.{length-take-le, length_front}
use Rattle.interleaving.specs.PX.{coded_bytes}
use Rattle.runs.proofs.Bridge.{matrix-bytes, memory-bytes}
use Rattle.chain.proofs.Extends.{buffers, coded-length, half-long, passed}
use Rattle.chain.proofs.interleave_px.Goals as goal
use Rattle.chain.proofs.interleave_px.Goals.{After-slice_known-3-1}

pub slice_bounds-encode_px-end : goal.slice_bounds-encode_px-end
slice_bounds-encode_px-end c =
    let a = c.args in
    half-long a.kind a.frames.now a.px.now a.coded.now c.requires.1

pub slice_bounds-encode_px-end-2 : goal.slice_bounds-encode_px-end-2
slice_bounds-encode_px-end-2 c = sym (length-take-le _ _ (slice_bounds-encode_px-end (goal.at.slice_bounds-encode_px-end-2 c).After-slice_known-3-1))

pub encode_px-requires : goal.encode_px-requires
encode_px-requires c =
    let a = c.args in
    buffers a.kind a.frames.now a.px.now a.coded.now c.requires.1

pub pass-requires : goal.pass-requires
pass-requires c =
    let a = c.args in
    let pre = c.requires in
    let t = c.table_row.ensures in
    let k = a.kind in
    let code = coded-length k a.frames.now a.px.now a.coded.now pre.1 _ c.encode_px.ensures in
    let long = length_front a.px.now c.encode_px.new.scrambled (length a.coded.now / 2) c.encode_px.auto.scrambled in record {
      kind_bound = (rw t pre.1.used, omega arith);
      coded_len = (
        code ∙ ap coded_bytes (sym t),
        pre.2 ∙ sym (memory-bytes k) ∙ ap (λ (x : ℕ). 2 * coded_bytes x) (sym t),
        long ∙ pre.1.long
            ∙ sym (matrix-bytes k) ∙ ap coded_bytes (sym t),
      );
    }

pub returns : goal.returns
returns c =
    let a = c.args in
    passed a.kind a.frames.now a.px.now a.coded.now c.requires.1 _ c.encode_px.ensures
    _ a.half a.memory.now _ _ c.table_row.ensures c.pass.ensures.memory_after c.pass.ensures.px_after
