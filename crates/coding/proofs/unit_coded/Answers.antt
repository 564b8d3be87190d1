-- `coding::unit_coded` meets its contract: the words of the bytes of x sum up to its own. Assumes nothing.
use mathlib.Core.Bool.{false}
use lib.Dec.{lit<}
use Rattle.coding.proofs.Sums.{word_at, coded-sum}
use Rattle.coding.proofs.unit_coded.Goals as goal

pub returns-in-TwoFifths : goal.returns-in-TwoFifths
returns-in-TwoFifths c =
    let a = c.args in
    let pre = c.requires in
    let at = word_at a.rate false a.x in
    let is = c.in-TwoFifths.is in
    let sum =
    coded-sum a.rate a.x _ _ _ pre.1 (at 0 _ pre.0 (lit< tt) c.byte_of.ensures)
    (at 1 _ pre.0 (lit< tt) c.byte_of-2.ensures)
    (at 2 _ pre.0 (lit< tt) c.byte_of-3.ensures) in
    rw is (rw is at sum)

pub returns-in-Half : goal.returns-in-Half
returns-in-Half c =
    let a = c.args in
    let pre = c.requires in
    let at = word_at a.rate false a.x in
    let is = c.in-Half.is in
    let sum =
    coded-sum a.rate a.x _ _ _ pre.1 (at 0 _ pre.0 (lit< tt) c.byte_of.ensures)
    (at 1 _ pre.0 (lit< tt) c.byte_of-2.ensures)
    (at 2 _ pre.0 (lit< tt) c.byte_of-3.ensures) in
    rw is (rw is at sum)
