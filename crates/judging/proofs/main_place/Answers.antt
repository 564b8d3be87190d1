-- `main_place` meets its contract: the lower of what PM shows and what the second path shows. Assumes nothing.
use mathlib.Core.Path.{ap, ◌∙◌}
use Rattle.runs.specs.declared.Main.{Main}
use Rattle.runs.specs.Chain.{p1_of, p2_of}
use Rattle.calls.specs.Called.{memory_behind, signal_behind}
use Rattle.judging.proofs.Staged.{main-judged}
use Rattle.judging.proofs.main_place.Goals as goal

pub returns : goal.returns
returns c =
    let a = c.args in
    let k = c.main_of.ensures in
    record {
      value = c.lower.ensures ∙ main-judged a.state (memory_behind a.memory.now) (signal_behind a.signal.now).matrices k c.recover_main-place.ensures.value c.late_place.ensures;
      p1_after = c.recover_main-place.ensures.scrambled_after.0 ∙ ap (λ (x : Main). p1_of x a.signal.now.pm.now) k;
      p2_after = c.recover_main-place.ensures.scrambled_after.1 ∙ ap (λ (x : Main). p2_of x a.signal.now.pm.now) k;
      same = search;
    }
