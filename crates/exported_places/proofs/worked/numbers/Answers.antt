-- `numbers` meets its contract: the numbers of the working one by one. Assumes nothing.
use Rattle.exported_places.proofs.Numbers.{numbers-are}
use Rattle.exported_places.proofs.worked.numbers.Goals as goal

pub returns : goal.returns
returns c =
    numbers-are _ c.requires.0 c.requires.1 _ _ _ _ _ _ _ _ _ _ _ _ _ _
    c.from.ensures
    c.from-2.ensures
    c.from-3.ensures
    c.from-4.ensures
    c.from-5.ensures
    c.from-6.ensures
    c.from-7.ensures
    c.from-8.ensures
    c.from-9.ensures
    c.from-10.ensures
    c.from-11.ensures
    c.from-12.ensures
    c.from-13.ensures
    c.from-14.ensures
