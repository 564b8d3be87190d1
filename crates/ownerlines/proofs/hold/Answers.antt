-- `hold` meets its contract: there is room for the byte, or the line is too long to be read. Assumes nothing.
use Rattle.ownerlines.proofs.Held.{held-full, held_more}
use native.Mathlib.Omega.{arith}
use mathlib.Core.Path.{refl}
use borrow.Author.Rules.{rules}
use Rattle.ownerlines.proofs.hold.Goals as goal

pub returns-then-n-lt4096 : goal.returns-then-n-lt4096
returns-then-n-lt4096 c =
    let p = c.requires in
    record {
      upper_bound = (omega arith, search rules);
      by_index = λ bytes e. held_more _ bytes _ p.0 p.1 e _ c.if-n-lt4096.true;
    }

pub returns : goal.returns
returns c =
    let p = c.requires in
    record {
      upper_bound = (p.1, refl);
      by_index = λ bytes e. held-full _ bytes _ p.0 p.1 e _ c.if-n-lt4096.false;
    }
