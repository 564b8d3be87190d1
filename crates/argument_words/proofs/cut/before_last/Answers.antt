-- `before_last` meets its contract. Assumes nothing.
use mathlib.Core.Path.{◌∙◌, sym}
use native.Mathlib.Omega.{arith}
use lib.Seq.{length-take-le}
use Rattle.argument_words.proofs.Ends.{end-cut, end_fits, end_kept}
use Rattle.argument_words.proofs.cut.before_last.Goals as goal

pub returns-then-not-ends_with : goal.returns-then-not-ends_with
returns-then-not-ends_with c =
    let a = c.args in
    end_kept a.last.now a.text.now (sym c.ends_with.ensures ∙ c.if-not-ends_with.true)

pub overflow_sub-end : goal.overflow_sub-end
overflow_sub-end c =
    let a = c.args in
    end_fits a.last.now a.text.now (sym c.ends_with.ensures ∙ c.if-not-ends_with.false)

pub slice_bounds-result-end : goal.slice_bounds-result-end
slice_bounds-result-end c = sym (length-take-le _ _ (omega arith))

pub returns : goal.returns
returns c =
    let a = c.args in
    end-cut a.last.now a.text.now (sym c.ends_with.ensures ∙ c.if-not-ends_with.false)
