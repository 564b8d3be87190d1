-- `decode_p2` meets its contract: the coded bits behind those of P1 are P2's, where the mode has it. Assumes nothing.
use mathlib.Core.Path.{sym}
use Prim.Native.Nat.{◌+◌, ◌*◌, ◌/◌, ◌≤◌}
use native.Mathlib.Omega.{arith}
use lib.ListN.{length}
use lib.Seq.{length-take-le}
use Rattle.runs.specs.Chain.{p1_coded}
use Rattle.runs.proofs.Bounds.{p2-le}
use Rattle.recover.proofs.Mains.{behind, no-p2, p2-buffers, p2-found, plain-when, rest-is}
use Rattle.recover.proofs.decode_p2.Goals as goal
use Rattle.recover.proofs.decode_p2.Goals.{Else-n-eq0}

room : (c : Else-n-eq0) → length c.args.p2.now ≤ 13664
room c = let s = c in omega (arith, s.requires.1, p2-le s.args.main)

pub returns-then-n-eq0 : goal.returns-then-n-eq0
returns-then-n-eq0 c =
    let a = c.args in
    λ y bits e. no-p2 a.main a.p2.now (λ i. y (p1_coded a.main + i)) (plain-when a.main _ c.requires.1 c.if-n-eq0.true) c.requires.1

pub slice_bounds-scrambled-end : goal.slice_bounds-scrambled-end
slice_bounds-scrambled-end c = room (goal.at.slice_bounds-scrambled-end c).Else-n-eq0

pub slice_bounds-decode_channel-end-2 : goal.slice_bounds-decode_channel-end-2
slice_bounds-decode_channel-end-2 c = sym (length-take-le _ _ (room (goal.at.slice_bounds-decode_channel-end-2 c).Else-n-eq0))

pub decode_channel-requires : goal.decode_channel-requires
decode_channel-requires c =
    let a = c.args in (
      p2-buffers a.main c.coded_bytes-k.result a.p2.now (behind a.main _ _ c.coded_bytes-k.ensures.0 c.requires.1 c.if-n-eq0.false) a.coded.now c.requires.0,
      length-take-le _ _ (room (goal.at.decode_channel-requires c).Else-n-eq0),
    )

pub returns : goal.returns
returns c =
    let a = c.args in
    let b = c.coded_bytes-k in
    let z = behind a.main b.result (length a.p2.now) b.ensures.0 c.requires.1 c.if-n-eq0.false in
    λ y bits e.
    p2-found a.main b.result a.p2.now z y _ _ c.requires.1
    (c.decode_channel.ensures (λ i. y (8 * b.result + i)) (λ i. bits _) (rest-is a.main a.coded.now c.requires.0 y bits e b.result (length a.p2.now / 2 * 5) z.both))
