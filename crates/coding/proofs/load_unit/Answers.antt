-- `coding::load_unit` meets its contract, for each rate by its size. Assumes nothing.
use native.Mathlib.Omega.{arith}
use Rattle.coding.proofs.load_unit.Goals as goal

pub overflow_mul-u : goal.overflow_mul-u
overflow_mul-u c = let h = rw c.in-TwoFifths.is at c.requires in omega arith

pub load-requires : goal.load-requires
load-requires c = let h = rw c.in-TwoFifths.is at c.requires in (omega arith, omega arith)

pub overflow_mul-u-in-Half : goal.overflow_mul-u-in-Half
overflow_mul-u-in-Half c = let h = rw c.in-Half.is at c.requires in omega arith

pub load-requires-in-Half : goal.load-requires-in-Half
load-requires-in-Half c = let h = rw c.in-Half.is at c.requires in (omega arith, omega arith)

pub returns-in-TwoFifths : goal.returns-in-TwoFifths
returns-in-TwoFifths c = rw c.in-TwoFifths.is c.load.ensures

pub returns-in-Half : goal.returns-in-Half
returns-in-Half c = rw c.in-Half.is c.load-in-Half.ensures
