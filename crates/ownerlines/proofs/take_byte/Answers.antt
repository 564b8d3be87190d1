-- `take_byte` meets its contract: the byte ends the open line, or is part of it. Assumes nothing.
use mathlib.Core.Path.{refl, ap, ◌∙◌}
use native.Mathlib.Omega.{arith}
use Rattle.text.proofs.Stored.{put-behind}
use Rattle.linewise.proofs.Onward.{ended-line, longer}
use Rattle.ownerlines.specs.Printed.{printed}
use Rattle.ownerlines.proofs.Held.{held-empty, printed-held}
use Rattle.ownerlines.proofs.take_byte.Goals as goal

pub returns-then-b-eq10 : goal.returns-then-b-eq10
returns-then-b-eq10 c =
    let p = c.print-after.ensures in
    let ends = c.if-b-eq10.true in record {
      held_bound = (omega arith, refl, p.within, omega arith, p.size);
      by_index = λ seen text r.
          ended-line r _ _ _ ends held-empty (λ bytes e. put-behind text (ap (printed _ _) e ∙ printed-held _ _ bytes) p);
    }

pub returns : goal.returns
returns c =
    record {
      held_bound = (c.hold-longer.ensures.upper_bound.0, c.hold-longer.ensures.upper_bound.1, omega arith, omega arith, refl);
      by_index = λ seen text r. longer r _ _ c.if-b-eq10.false c.hold-longer.ensures.by_index;
    }
