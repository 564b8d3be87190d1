-- `put_work` meets its contract. Assumes nothing.
use mathlib.Core.Path.{ap}
use mathlib.Core.List.{◌++◌}
use Prim.Native.Nat.{ℕ}
use native.Mathlib.Omega.{arith}
use Rattle.text.specs.Letters.{ascii}
use Rattle.text.specs.Numbers.{decimal}
use Rattle.text.proofs.Stored.{put-most, put-text, put_then}
use Rattle.worktext.specs.Texts.{work_line}
use Rattle.worktext.proofs.put_work.Goals as goal

pub returns : goal.returns
unfolding work_line
returns c =
    put-most (omega arith)
    (put_then c.put_named-b.ensures
    (put_then (put-text (ap (λ (g : ℕ). ascii "GENERATOR " ++ (decimal g ++ ascii " ")) c.octal.ensures) c.put_named-c.ensures)
    (put_then c.put_sum-d.ensures c.put_writing.ensures)))
