-- `coding::store_unit` meets its contract, for each rate by its size. Assumes nothing.
use native.Mathlib.Omega.{arith}
use Rattle.coding.proofs.store_unit.Goals as goal

pub overflow_mul-u : goal.overflow_mul-u
overflow_mul-u c = let h = rw c.in-TwoFifths.is at c.requires in omega arith

pub store-requires : goal.store-requires
store-requires c =
    let h = rw c.in-TwoFifths.is at c.requires in (omega arith, omega arith)

pub overflow_mul-u-in-Half : goal.overflow_mul-u-in-Half
overflow_mul-u-in-Half c = let h = rw c.in-Half.is at c.requires in omega arith

pub store-requires-in-Half : goal.store-requires-in-Half
store-requires-in-Half c =
    let h = rw c.in-Half.is at c.requires in (omega arith, omega arith)

pub returns-in-TwoFifths : goal.returns-in-TwoFifths
returns-in-TwoFifths c =
    rw c.in-TwoFifths.is c.store.ensures

pub returns-in-Half : goal.returns-in-Half
returns-in-Half c =
    rw c.in-Half.is c.store-in-Half.ensures
