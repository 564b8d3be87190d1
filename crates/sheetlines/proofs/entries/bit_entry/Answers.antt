-- `bit_entry` meets its contract. Assumes nothing.
use borrow.Author.Tests.{lt-ltb, le-ltb}
use Rattle.sheetlines.specs.Entries.{bit_entry}
use Rattle.sheetlines.proofs.entries.bit_entry.Goals as goal

pub returns-then-channel-lt3 : goal.returns-then-channel-lt3
unfolding bit_entry
returns-then-channel-lt3 c = rw (lt-ltb _ _ c.if-channel-lt3.true) c.pm_placed.ensures

pub returns : goal.returns
unfolding bit_entry
returns c = rw (le-ltb _ _ c.if-channel-lt3.false) c.px_placed.ensures
