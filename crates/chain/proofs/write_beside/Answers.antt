-- `write_beside` meets its contract: the coded bits are those of P1 and P2, with those of PIDS their matrix is PM, and the scrambled P1 frames stand at the
-- front of PM till its cells are written. Assumes nothing.
use mathlib.Core.Path.{◌≡◌, sym, ap, ◌∙◌}
use mathlib.Core.List.{List, ◌++◌}
use Prim.Native.Nat.{ℕ, ◌≤◌}
use native.Mathlib.Omega.{arith}
use lib.ListN.{length, length-replicate, take, drop}
use lib.Seq.{length-take-le, length_front}
use Rattle.runs.specs.declared.Main.{Main}
use Rattle.runs.specs.MainChannels.{p1_len}
use Rattle.runs.specs.Paths.{waiting}
use Rattle.runs.proofs.Bounds.{p1-le}
use Rattle.runs.proofs.Bridge.{pm-from}
use Rattle.chain.proofs.Mains.{first-bytes, front_of, shares, split-coded}
use Rattle.chain.proofs.write_beside.Goals as goal
use Rattle.chain.proofs.write_beside.Goals.{After-coded-2-1}

-- PM, with the scrambled frames m in its first bytes, has room for the P1 frames
room : (k : Main) (p1 m pm : List ℕ) → length p1 ≡ p1_len k → length m ≡ length (take 18272 pm) → length pm ≡ 46080 → length p1 ≤ length (m ++ drop 18272 pm)
room k p1 m pm e kept l = omega (arith, e, p1-le k, length_front pm m 18272 kept, l)

pub slice_bounds-multiplex-end-2 : goal.slice_bounds-multiplex-end-2
slice_bounds-multiplex-end-2 c =
    sym (first-bytes c.args.pm.now c.requires.5)

pub multiplex-requires : goal.multiplex-requires
multiplex-requires c =
    let a = c.args in
    let pre = c.requires in
    let h = shares a.main a.p1.now a.p2.now pre.0 pre.1 pre.2 in
    let m = first-bytes a.pm.now pre.5 in
    let u = length-replicate {A = ℕ} 45680 0 in
    record {
      few = (omega arith, omega arith, omega arith);
      long2 = (omega arith, omega arith, omega arith);
      plain = omega arith;
      between = omega arith;
      all = omega arith;
    }

pub slice_bounds-push_delay-end : goal.slice_bounds-push_delay-end
slice_bounds-push_delay-end c =
    let a = c.args in
    room a.main a.p1.now c.multiplex.new.mixed a.pm.now c.requires.0
    c.multiplex.auto.mixed c.requires.5

pub slice_bounds-push_delay-end-2 : goal.slice_bounds-push_delay-end-2
slice_bounds-push_delay-end-2 c = sym (length-take-le _ _ (slice_bounds-push_delay-end (goal.at.slice_bounds-push_delay-end-2 c).After-coded-2-1))

pub push_delay-requires : goal.push_delay-requires
push_delay-requires c =
    (length-take-le _ _ (slice_bounds-push_delay-end (goal.at.push_delay-requires c).After-coded-2-1) ∙ c.requires.0, c.requires.4)

pub shape_of-pm : goal.shape_of-pm
shape_of-pm c =
    c.interleave.auto.pm ∙ length_front c.args.pm.now c.multiplex.new.mixed 18272
    c.multiplex.auto.mixed

pub returns : goal.returns
returns c =
    let a = c.args in
    let pre = c.requires in
    let coded = split-coded a.main a.p1.now a.p2.now pre.0 pre.1 pre.2 _ _ _ (length-replicate {A = ℕ} 45680 0) c.multiplex.ensures in
    let long = c.multiplex.auto.mixed ∙ first-bytes a.pm.now pre.5 in (
      c.push_delay.ensures ∙ ap (waiting a.main a.delay.now)
          (front_of a.main _ c.multiplex.new.mixed _ a.p1.now long pre.0 coded.0),
      λ pids e. c.interleave.ensures ∙ pm-from a.main a.p1.now a.p2.now pids _ _ coded.1 e,
    )
