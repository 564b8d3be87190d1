-- `ends_with` meets its contract. Assumes nothing.
use mathlib.Core.Path.{refl}
use Rattle.argument_words.proofs.Ends.{end-longer, end-there}
use Rattle.argument_words.proofs.cut.ends_with.Goals as goal

pub returns-then-text-last : goal.returns-then-text-last
returns-then-text-last c =
    let a = c.args in
    end-longer a.last.now a.text.now c.if-text-last.true

pub returns : goal.returns
returns c =
    let a = c.args in
    end-there a.last.now a.text.now _ refl c.same.ensures
