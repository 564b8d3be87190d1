-- `layer1_judge` meets its contract: the verdict, in a word. Assumes nothing.
use mathlib.Core.Path.{ap, ◌∙◌}
use native.Mathlib.Omega.{arith}
use Rattle.words.specs.Words.{verdict_word}
use Rattle.exported.proofs.Verdicts.{verdict-small}
use Rattle.exported.proofs.judged.layer1_judge.Goals as goal

pub verdict_word-requires : goal.verdict_word-requires
verdict_word-requires c =
    verdict-small c.args.dump.now (λ j. omega (arith, c.shared_slice_known-1.given j)) _ c.judge-verdict.ensures

pub returns : goal.returns
returns c = c.verdict_word.ensures ∙ ap verdict_word c.judge-verdict.ensures
