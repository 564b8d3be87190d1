-- `scramble_px` meets its contract: the frames that are meant are those lent, or the zeros. Assumes nothing.
use mathlib.Core.Path.{sym, ap, ◌∙◌}
use Prim.Native.Nat.{ℕ}
use native.Mathlib.Omega.{arith}
use lib.ListN.{length, length-replicate}
use Rattle.runs.proofs.Filled.{or-zeros-none, or-zeros-some}
use Rattle.chain.proofs.Extends.{scrambled-same}
use Rattle.chain.proofs.scramble_px.Goals as goal

pub scramble_each-requires : goal.scramble_each-requires
scramble_each-requires c =
    (ap length c.requires.1 ∙ length-replicate {A = ℕ} (length c.args.scrambled.now) 0, omega (arith, c.requires.2))

pub returns-then-frames-eq0 : goal.returns-then-frames-eq0
returns-then-frames-eq0 c =
    c.scramble_each.ensures
    ∙ scrambled-same (length c.args.scrambled.now) (c.requires.1 ∙ sym (or-zeros-none (length c.args.scrambled.now) c.args.frames.now c.if-frames-eq0.true))

pub scramble_each-requires-2 : goal.scramble_each-requires-2
scramble_each-requires-2 c =
    (sym (ap length (or-zeros-some (length c.args.scrambled.now) c.args.frames.now c.if-frames-eq0.false)) ∙ c.requires.0, omega (arith, c.requires.2))

pub returns : goal.returns
returns c =
    c.scramble_each-2.ensures
    ∙ scrambled-same (length c.args.scrambled.now) (sym (or-zeros-some (length c.args.scrambled.now) c.args.frames.now c.if-frames-eq0.false))
