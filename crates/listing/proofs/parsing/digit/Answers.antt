-- `listing::digit` meets its contract. Assumes nothing.
use native.Mathlib.Omega.{arith}
use Rattle.listing.proofs.Pushed.{under-digits, over-digits, a-digit}
use Rattle.listing.proofs.parsing.digit.Goals as goal

pub returns-then-b-lt48 : goal.returns-then-b-lt48
returns-then-b-lt48 c = (rw (under-digits _ c.if-b-lt48.true), omega arith)

pub returns-then-b-gt57 : goal.returns-then-b-gt57
returns-then-b-gt57 c = (rw (over-digits _ c.if-b-gt57.true), omega arith)

pub returns : goal.returns
returns c = (rw (a-digit _ c.if-b-lt48.false c.if-b-gt57.false), omega arith)
