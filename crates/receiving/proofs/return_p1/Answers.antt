-- `return_p1` meets its contract, by the delay and the age. Assumes nothing.
use lib.Seq.{length-take-le}
use Rattle.receiving.proofs.Returned.{at_once, comes, fits_in, some-each, waits}
use Rattle.receiving.proofs.return_p1.Goals as goal

pub returns-then-memory-eq0 : goal.returns-then-memory-eq0
returns-then-memory-eq0 c =
    let a = c.args in
    at_once a.main a.age a.memory.now.delayed.now a.own.now.p1.now a.p1.now c.requires.0 c.requires.1 c.requires.2 _ c.if-memory-eq0.true c.scramble_each.ensures

pub returns-then-age-lt3 : goal.returns-then-age-lt3
returns-then-age-lt3 c =
    let a = c.args in
    waits a.main a.age a.memory.now.delayed.now a.own.now.p1.now a.p1.now c.requires.0 c.requires.1 c.requires.2 c.if-memory-eq0.false c.if-age-lt3.true

pub scramble_each-requires-2 : goal.scramble_each-requires-2
scramble_each-requires-2 c =
    let a = c.args in
    (length-take-le _ _ (fits_in a.main a.age a.memory.now.delayed.now a.own.now.p1.now a.p1.now c.requires.0 c.requires.1 c.requires.2 c.if-memory-eq0.false), some-each a.main a.age a.memory.now.delayed.now a.own.now.p1.now a.p1.now c.requires.0 c.requires.1 c.requires.2 c.if-memory-eq0.false)

pub returns : goal.returns
returns c =
    let a = c.args in
    comes a.main a.age a.memory.now.delayed.now a.own.now.p1.now a.p1.now c.requires.0 c.requires.1 c.requires.2 _ c.if-memory-eq0.false c.if-age-lt3.false c.scramble_each-2.ensures
