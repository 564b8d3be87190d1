-- `listing::print` meets its contract: the answer's line is the one that the line's state tells. Assumes nothing.
use mathlib.Core.Path.{refl, sym, ap, ◌∙◌}
use Rattle.std.specs.Prelude.{ℕ, Ok, Option, unwrap_or}
use Rattle.listing.specs.Printed.{named_p1, named_pids, told}
use Rattle.listing.proofs.Meaning.{told-shown, shown-printed}
use Rattle.text.proofs.Stored.{put-text}
use Rattle.listing.proofs.printing.print.Goals as goal

pub returns-in-Ok-P1 : goal.returns-in-Ok-P1
returns-in-Ok-P1 c =
    record {
      put = put-text (ap (told _ _ _) (sym (c.in-Ok-P1.is ∙ ap Ok c.in-Ok-P1.field-0-is)) ∙ told-shown _ _ _ _ _ c.unwrap_or-row.ensures (c.unwrap_or-column.ensures ∙ ap (λ (o : Option ℕ). unwrap_or o 1000) c.unwrap_or.ensures) c.find_by.ensures.0)
          (c.cell.ensures named_p1 refl);
      by_index = λ bytes e. shown-printed _ _ bytes e;
    }

pub returns-in-Ok-Pids : goal.returns-in-Ok-Pids
returns-in-Ok-Pids c =
    record {
      put = put-text (ap (told _ _ _) (sym (c.in-Ok-Pids.is ∙ ap Ok c.in-Ok-Pids.field-0-is)) ∙ told-shown _ _ _ _ _ c.unwrap_or-row.ensures (c.unwrap_or-column.ensures ∙ ap (λ (o : Option ℕ). unwrap_or o 1000) c.unwrap_or.ensures) c.find_by.ensures.0)
          (c.cell-in-Ok-Pids.ensures named_pids refl);
      by_index = λ bytes e. shown-printed _ _ bytes e;
    }

pub returns-in-Err : goal.returns-in-Err
returns-in-Err c =
    record {
      put = put-text (ap (told _ _ _) (sym c.in-Err.is) ∙ told-shown _ _ _ _ _ c.unwrap_or-row.ensures (c.unwrap_or-column.ensures ∙ ap (λ (o : Option ℕ). unwrap_or o 1000) c.unwrap_or.ensures) c.find_by.ensures.0)
          c.refuse.ensures;
      by_index = λ bytes e. shown-printed _ _ bytes e;
    }
