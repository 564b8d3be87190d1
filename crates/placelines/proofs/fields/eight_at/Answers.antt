use mathlib.Core.Path.{refl, ap, ◌∙◌}
use Prim.Native.Nat.{ℕ, ◌+◌}
use native.Mathlib.Omega.{arith}
use Rattle.std.specs.Prelude.{Option, unwrap_or}
use Rattle.bits.proofs.Listed.{filled_none, filled-turn, filled-all}
use Rattle.placelines.specs.Read.{eight_at}
use Rattle.placelines.proofs.Numbers.{read_value}
use Rattle.placelines.proofs.fields.eight_at.Goals as goal

pub loop-d-init : goal.loop-d-init
loop-d-init c = filled_none 8 _ _ refl

pub loop-d-preserved : goal.loop-d-preserved
loop-d-preserved c =
    filled-turn _ c.loop-d.invariant c.loop-d-test.true
    (c.unwrap_or.ensures ∙ ap (λ (o : Option ℕ). unwrap_or o 0) c.number_at.ensures
    ∙ read_value c.args.line.now c.requires.0 (c.args.k + c.loop-d.d) (omega (arith, c.requires.1)))

pub returns : goal.returns
unfolding eight_at
returns c = filled-all c.loop-d.invariant (omega arith) (omega arith)
