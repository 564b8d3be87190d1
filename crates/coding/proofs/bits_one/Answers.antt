-- `coding::bits_one` meets its contract: the laws of `Ones`. Assumes nothing.
use Rattle.coding.proofs.Ones.{bits-one-25, bits-one-12}
use Rattle.coding.proofs.bits_one.Goals as goal

pub returns-in-TwoFifths : goal.returns-in-TwoFifths
returns-in-TwoFifths c = rw c.in-TwoFifths.is (λ k l. bits-one-25 k _ l c.requires)

pub returns-in-Half : goal.returns-in-Half
returns-in-Half c = rw c.in-Half.is (λ k l. bits-one-12 k _ l c.requires)
