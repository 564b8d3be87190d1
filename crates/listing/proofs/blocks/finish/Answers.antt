-- `listing::finish` meets its contract: no open line, or one to print. Assumes nothing.
use mathlib.Core.Path.{refl, ◌∙◌}
use native.Mathlib.Omega.{arith}
use Rattle.io.proofs.Counting.{prefix_len_of_le}
use Rattle.linewise.proofs.Onward.{ended-input, ended-open}
use borrow.Author.Rules.{rules}
use Rattle.listing.proofs.blocks.finish.Goals as goal

pub returns-then-not-is_begun : goal.returns-then-not-is_begun
returns-then-not-is_begun c = record {
  prefix_len = ((search rules, refl), refl);
  by_index = λ seen text r. ended-input r (λ bytes e. c.is_begun.ensures bytes e ∙ c.if-not-is_begun.true);
}

pub returns : goal.returns
returns c =
    let p = c.print.ensures in
    record {
      prefix_len = (prefix_len_of_le _ _ (omega (arith, p.put.within, p.put.size)), p.put.size);
      by_index = λ seen text r.
          ended-open r _ (λ bytes e. c.is_begun.ensures bytes e ∙ c.if-not-is_begun.false) (λ bytes e. p.put.holds ∙ p.by_index bytes e);
    }
