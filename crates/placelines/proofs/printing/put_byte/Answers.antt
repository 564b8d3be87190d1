-- `put_byte` meets its contract: a byte has at most three digits. Assumes nothing.
use Rattle.placelines.proofs.Texts.{put-short}
use borrow.Author.Rules.{rules}
use Rattle.placelines.proofs.printing.put_byte.Goals as goal

pub returns : goal.returns
returns c =
    put-short _ _ (search rules) c.requires c.field.ensures
