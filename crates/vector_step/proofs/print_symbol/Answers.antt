-- `print_symbol` meets its contract: the parts that are printed are zero or as large as the scale of their sideband. Assumes nothing.
use mathlib.Core.Path.{◌∙◌}
use lib.Ieee.{of_bits}
use Rattle.messages.specs.Lines.{in_words}
use Rattle.vector_step.specs.Printed.{vector_text}
use Rattle.vector_step.proofs.Printable.{can-print}
use Rattle.vector_step.proofs.Texts.{said-filled, said-refused}
use borrow.Author.Rules.{rules}
use Rattle.causes.proofs.Success.{refused}
use Rattle.vector_step.proofs.print_symbol.Goals as goal

pub returns-then-not-is_success : goal.returns-then-not-is_success
unfolding vector_text of_bits
returns-then-not-is_success c =
    let p = c.put_in_words-length.ensures in
    let n = c.number-number.ensures in (
      p.0,
      said-refused c.args.mode _ _ _ c.fill-answer.ensures
          (refused c.is_success.ensures c.if-not-is_success.true) (p.1 ∙ (λ i. in_words (n i) (c.place-place.ensures i) 0)),
    )

pub put_lines-length-requires : goal.put_lines-length-requires
put_lines-length-requires c = (
  search rules,
  search rules,
  can-print c.args.mode c.args.symbol c.args.lower c.args.upper _ _ _ c.args.times1 c.args.times2 _ c.fill-answer.ensures
      (c.is_success.ensures.0 c.if-not-is_success.false) c.requires.0 c.requires.1,
  c.requires.2,
)

pub returns : goal.returns
unfolding vector_text of_bits
returns c =
    let p = c.put_lines-length.ensures in (
      p.0,
      said-filled c.args.mode _ _ _ c.fill-answer.ensures
          (c.is_success.ensures.0 c.if-not-is_success.false) p.1,
    )
