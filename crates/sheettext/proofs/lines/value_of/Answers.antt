-- `value_of` meets its contract: the match is the definition's. Assumes nothing.
use borrow.Author.Tests.{eq-eqb, le-ltb, lt-ltb, ne_eqb}
use Rattle.sheettext.specs.Texts.{value_in}
use Rattle.sheettext.proofs.lines.value_of.Goals as goal

pub returns-then-coded-lt3 : goal.returns-then-coded-lt3
unfolding value_in
returns-then-coded-lt3 c = rw (c.in-Some.is, c.in-Stands.is, lt-ltb _ _ c.if-coded-lt3.true) c.bit_at.ensures

pub returns-then-coded-eq3 : goal.returns-then-coded-eq3
unfolding value_in
returns-then-coded-eq3 c = rw (c.in-Some.is, c.in-Stands.is, le-ltb _ _ c.if-coded-lt3.false, eq-eqb _ _ c.if-coded-eq3.true) c.bit_at-then-coded-eq3.ensures

pub returns-else-coded-eq3 : goal.returns-else-coded-eq3
unfolding value_in
returns-else-coded-eq3 c = rw (c.in-Some.is, c.in-Stands.is, le-ltb _ _ c.if-coded-lt3.false, ne_eqb _ _ c.if-coded-eq3.false) c.bit_at-in-Stands.ensures

pub returns-in-Fill : goal.returns-in-Fill
unfolding value_in
returns-in-Fill c = rw (c.in-Some.is, c.in-Fill.is)

pub returns-in_default : goal.returns-in_default
unfolding value_in
returns-in_default c = rw c.in_default.is
