-- `put_source` meets its contract. Assumes nothing.
use mathlib.Core.Path.{sym}
use native.Mathlib.Omega.{arith}
use Rattle.text.proofs.Stored.{put-most, put-text, put_then}
use Rattle.vector_step.specs.Printed.{source_text}
use Rattle.vector_step.proofs.lines.put_source.Goals as goal

pub returns-in-Unused : goal.returns-in-Unused
unfolding source_text
returns-in-Unused c = put-text (sym (rw c.in-Unused.is)) (put-most (omega arith) c.put.ensures)

pub returns-in-Pm : goal.returns-in-Pm
unfolding source_text
returns-in-Pm c =
    put-text (sym (rw c.in-Pm.is)) (put-most (omega arith) (put_then c.put-m.ensures c.field.ensures))

pub returns-in-Px1 : goal.returns-in-Px1
unfolding source_text
returns-in-Px1 c =
    put-text (sym (rw c.in-Px1.is)) (put-most (omega arith) (put_then c.put-m-in-Px1.ensures c.field-in-Px1.ensures))

pub returns-in-Px2 : goal.returns-in-Px2
unfolding source_text
returns-in-Px2 c =
    put-text (sym (rw c.in-Px2.is)) (put-most (omega arith) (put_then c.put-m-in-Px2.ensures c.field-in-Px2.ensures))

pub returns-in-Control : goal.returns-in-Control
unfolding source_text
returns-in-Control c =
    put-text (sym (rw c.in-Control.is)) (put-most (omega arith) (put_then c.put-m-in-Control.ensures c.field-in-Control.ensures))
