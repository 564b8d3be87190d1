-- `scrambling::feed` meets its contract. Assumes nothing.
use Rattle.bits.proofs.Words.{xor_low}
use Rattle.scrambling.proofs.feed.Goals as goal

pub returns : goal.returns
returns c = xor_low _ c.args.reg
