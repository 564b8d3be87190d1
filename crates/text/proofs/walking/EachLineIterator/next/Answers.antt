-- `next` gives the first of the lines that are left. Assumes nothing.
use Rattle.std.proofs.Common.{length, rules, arith, ap}
use Rattle.text.proofs.Walk.{lines-none, lines-on}
use Rattle.text.proofs.walking.EachLineIterator.next.Goals as goal

pub returns-then-is_empty-clause-steps : goal.returns-then-is_empty-clause-steps
returns-then-is_empty-clause-steps c =
    let none = lines-none c.args.self.now.rest.now (search rules) in
    (none, none)

pub returns-clause-steps : goal.returns-clause-steps
returns-clause-steps c = lines-on c.args.self.now.rest.now _ _ (search rules) c.cut.ensures.0 c.cut.ensures.1

pub returns-clause-goes : goal.returns-clause-goes
returns-clause-goes c =
    let first = lines-on c.args.self.now.rest.now _ _ (search rules) c.cut.ensures.0 c.cut.ensures.1 in
    record { on = λ _. (tt, tt, omega (arith, ap length first)); keeps = tt; rests = λ _. tt }
