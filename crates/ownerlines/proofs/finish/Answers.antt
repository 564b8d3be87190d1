-- `finish` meets its contract: no open line, or one to print. Assumes nothing.
use mathlib.Core.Path.{refl, ap, ◌∙◌}
use native.Mathlib.Omega.{arith}
use Rattle.io.proofs.Counting.{prefix_len_of_le}
use Rattle.linewise.proofs.Onward.{ended-input, ended-open}
use Rattle.ownerlines.specs.Printed.{printed}
use Rattle.ownerlines.proofs.Held.{held_none, held-some, printed-held}
use borrow.Author.Rules.{rules}
use Rattle.ownerlines.proofs.finish.Goals as goal

pub returns-then-held-eq0 : goal.returns-then-held-eq0
returns-then-held-eq0 c =
    let p = c.requires in
    record {
      prefix_len = ((search rules, refl), refl);
      by_index = λ seen text r. ended-input r (λ bytes e. held_none _ bytes _ p.1 p.0 e c.if-held-eq0.true);
    }

pub returns : goal.returns
returns c =
    let p = c.print.ensures in
    let a = c.requires in
    let some = c.if-held-eq0.false in record {
      prefix_len = (prefix_len_of_le _ _ (omega (arith, p.within, p.size)), p.size);
      by_index = λ seen text r.
          ended-open r _ (λ bytes e. held-some _ bytes _ a.1 a.0 e some) (λ bytes e. p.holds ∙ ap (printed _ _) e ∙ printed-held _ _ bytes);
    }
