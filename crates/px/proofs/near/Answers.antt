-- `px::near` meets its contract: the law `near_byte`. Assumes nothing.
use mathlib.Core.Path.{ap, ◌∙◌}
use Prim.Native.Nat.{ℕ, ◌+◌, ◌-◌, ◌%◌}
use Rattle.px.specs.Merged.{near4}
use Rattle.px.proofs.Merging.{near_byte}
use Rattle.px.proofs.near.Goals as goal

pub returns : goal.returns
returns c = λ kind g hk a-is b-is.
    let t = c.args.t in
    near_byte kind t g _ _ hk c.requires.2
    (c.near_half.ensures.0 ∙ ap (λ (a : ℕ). near4 ((t + (32 - a)) % 32)) a-is) (c.near_half-2.ensures.0 ∙ ap (λ (a : ℕ). near4 ((t + (32 - a)) % 32)) b-is)
