-- `meant_len` meets its contract: nothing means zeros in full, and anything else itself. Assumes nothing.
use mathlib.Core.Path.{sym, ap, ◌∙◌}
use Prim.Native.Nat.{ℕ}
use lib.ListN.{length, length-replicate}
use Rattle.runs.proofs.Filled.{or-zeros-none, or-zeros-some}
use Rattle.modes.proofs.meant_len.Goals as goal

pub returns-then-have-eq0 : goal.returns-then-have-eq0
returns-then-have-eq0 c b e = let want = c.args.want in sym (ap length (or-zeros-none want b (e ∙ c.if-have-eq0.true)) ∙ length-replicate {A = ℕ} want 0)

pub returns : goal.returns
returns c b e = sym (ap length (or-zeros-some c.args.want b (λ z. c.if-have-eq0.false (sym e ∙ z))) ∙ e)
