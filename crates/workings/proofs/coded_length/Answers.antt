-- `coded_length` meets its contract. Assumes nothing.
use Rattle.workings.proofs.coded_length.Goals as goal

pub returns-in-TwoFifths : goal.returns-in-TwoFifths
returns-in-TwoFifths c = rw c.in-TwoFifths.is

pub returns-in-Half : goal.returns-in-Half
returns-in-Half c = rw c.in-Half.is
