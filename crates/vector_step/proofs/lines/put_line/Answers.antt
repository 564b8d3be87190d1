-- `put_line` meets its contract. Assumes nothing.
use mathlib.Core.Path.{ap}
use Rattle.text.proofs.Stored.{put-text, put_then}
use Rattle.vector_step.specs.Printed.{line, source_text}
use Rattle.vector_step.proofs.lines.put_line.Goals as goal

pub returns : goal.returns
unfolding line
returns c =
    put_then c.put_subcarrier-a.ensures (put_then c.put_part-b.ensures (put_then c.put-c.ensures (put_then c.put_part-d.ensures
    (put_then c.put-e.ensures (put-text (ap source_text c.source_at.ensures) c.put_source.ensures)))))
