-- `begins` meets its contract. Assumes nothing.
use mathlib.Core.Path.{sym}
use lib.Seq.{length-take-le}
use Rattle.cause_words.specs.NoSheet.{begins}
use Rattle.cause_words.proofs.Named.{too_short}
use Rattle.cause_words.proofs.no_sheet.begins.Goals as goal

pub returns-then-text-n : goal.returns-then-text-n
returns-then-text-n c = too_short c.args.start.now c.args.text.now c.if-text-n.true

pub slice_bounds-same-end : goal.slice_bounds-same-end
slice_bounds-same-end c = sym (length-take-le _ _ c.if-text-n.false)

pub returns : goal.returns
unfolding begins
returns c = c.same.ensures
