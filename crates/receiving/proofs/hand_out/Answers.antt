-- `hand_out` meets its contract: what was copied, by the age. Assumes nothing.
use mathlib.Core.Path.{refl, ◌∙◌}
use Rattle.receiving.proofs.Returned.{kept-early, taken-late}
use Rattle.receiving.proofs.hand_out.Goals as goal

pub returns-then-age-lt2 : goal.returns-then-age-lt2
returns-then-age-lt2 c =
    let h = c.if-age-lt2.true in
    record {
      p1_after = refl;
      pids_after = (c.copy.ensures, c.copy-2.ensures);
      p3_after = (kept-early _ _ _ h, kept-early _ _ _ h);
      same = search;
    }

pub returns : goal.returns
returns c =
    let h = c.if-age-lt2.false in
    record {
      p1_after = refl;
      pids_after = (c.copy.ensures, c.copy-2.ensures);
      p3_after = (c.copy-3.ensures ∙ taken-late _ _ _ h, c.copy-4.ensures ∙ taken-late _ _ _ h);
      same = search;
    }
