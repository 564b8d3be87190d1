-- `keep` meets its contract: the matrices of P4 stand first in PX2. Assumes nothing.
use mathlib.Core.Path.{ap, ◌∙◌}
use native.Mathlib.Omega.{arith}
use Rattle.runs.specs.declared.Main.{Main}
use Rattle.runs.specs.Lengths.{matrix_len}
use Rattle.runs.specs.Paths.{waiting}
use Rattle.runs.specs.Reading.{push}
use Rattle.judging.proofs.Staged.{fourth-is, fourth-long}
use Rattle.receiving.proofs.keep.Goals as goal

pub push-requires-2 : goal.push-requires-2
push-requires-2 c =
    let l = fourth-long c.args.state c.args.signal.now.px2.now c.requires.1 c.kind_of.ensures c.matrix_len-n.ensures.0 in
    let n = c.matrix_len-n.ensures.0 ∙ ap matrix_len c.kind_of.ensures in
    omega (arith, l, n, c.requires.2)

pub returns : goal.returns
returns c =
    let a = c.args in
    let m = a.memory.now in
    record {
      kept = (
        c.push.ensures,
        c.push-2.ensures ∙ ap (push m.for4.now) (fourth-is a.state a.signal.now.px2.now c.requires.1 c.kind_of.ensures c.matrix_len-n.ensures.0),
        c.push_delay.ensures ∙ ap (λ (k : Main). waiting k m.delayed.now a.own.now.p1.now) c.main_of.ensures,
      );
      same = search;
    }
