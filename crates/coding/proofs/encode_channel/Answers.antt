use mathlib.Core.Path.{◌∙◌}
use lib.ListN.{length}
use Rattle.coding.proofs.Passes.{both-passes}
use Rattle.coding.proofs.encode_channel.Goals as goal

-- src/lib.rt:215:1
pub returns : goal.returns
returns c =
    let a = c.args in
    let scrambled = c.scramble_each.ensures in
    record {
      between_after = scrambled;
      out_after = c.encode.ensures ∙ both-passes a.rate a.n _ a.count (length a.between.now) _ a.frames.now a.out.now c.requires.0 c.requires.1 scrambled;
    }
