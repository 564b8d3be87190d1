-- `answer` lends a step what it asks for: scales that are so many times 2^-16, exactly. Assumes nothing.
use borrow.Author.Rules.{rules}
use Rattle.vector.proofs.answer.Goals as goal

pub print_symbol-printed-requires : goal.print_symbol-printed-requires
print_symbol-printed-requires g c =
    (c.value_of.ensures c.requires.0, c.value_of-2.ensures c.requires.1, search rules)
