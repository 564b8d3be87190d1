-- `listing::take_byte` meets its contract: the byte ends the open line, or is part of it. Assumes nothing.
use mathlib.Core.Path.{refl}
use native.Mathlib.Omega.{arith}
use Rattle.linewise.proofs.Onward.{longer, ended-line}
use Rattle.text.proofs.Stored.{put-behind}
use Rattle.listing.proofs.blocks.take_byte.Goals as goal

pub returns-then-b-eq10 : goal.returns-then-b-eq10
returns-then-b-eq10 c =
    let p = c.print-after.ensures in record {
      end_bound = (p.put.within, omega arith, p.put.size);
      by_index = λ seen text r.
          ended-line r _ _ _ c.if-b-eq10.true c.empty-none.ensures (λ bytes e. put-behind text (p.by_index bytes e) p.put);
    }

pub returns : goal.returns
returns c = record {
  end_bound = (omega arith, omega arith, refl);
  by_index = λ seen text r. longer r _ _ c.if-b-eq10.false c.step-longer.ensures;
}
