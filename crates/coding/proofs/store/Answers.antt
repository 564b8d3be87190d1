use mathlib.Core.Path.{refl, ap, ◌∙◌, ◌≡◌}
use Prim.Native.Nat.{◌/◌, ◌%◌, ◌^◌, ℕ, ◌+◌, ◌-◌, ◌*◌}
use native.Mathlib.Nat.{add-zero}
use native.Mathlib.Omega.{arith}
use lib.ListN.{length-set}
use borrow.Author.Rules.{rules}
use Rattle.bits.proofs.Numbers.{number-cong}
use Rattle.bits.proofs.Stores.{stored-turn}
use Rattle.coding.proofs.Slices.{number-slice}
use Rattle.coding.proofs.store.Goals as goal

pub loop-k-init : goal.loop-k-init
loop-k-init c = (search rules, refl, λ f b e t. record { inside = omega arith; long = refl; front = rw add-zero t })

pub loop-k-preserved : goal.loop-k-preserved
loop-k-preserved c =
    let a = c.args in
    let loop = c.loop-k in
    let k = loop.k in
    let next : a.j + (k + 1) ≡ a.j + k + 1 = omega arith in (
      search rules,
      simp length-set loop.invariant.1,
      λ f b e t.
          rw next
          (stored-turn _ (loop.invariant.2 f b e t) (omega arith)
          (ap (λ (x : ℕ). x / 2 ^ (8 * (a.m - 1 - k)) % 256) e
          ∙ number-slice (λ i. f (8 * a.j + i)) (λ i. b _) (8 * a.m) (8 * k) 8 (8 * (a.m - 1 - k)) (omega arith)
          ∙ number-cong 8 _ _ (λ i l. ap f (omega arith)))),
    )

pub returns : goal.returns
returns c =
    λ f b e t.
    let k : c.loop-k.k ≡ c.args.m = omega arith in
    rw k at (c.loop-k.invariant.2 f b e t).front
