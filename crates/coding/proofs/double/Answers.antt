use mathlib.Core.Path.{◌≡◌, ap, ◌∙◌}
use Prim.Native.Nat.{ℕ, ◌+◌, ◌<◌}
use native.Mathlib.Omega.{arith}
use borrow.Author.Rules.{rules}
use lib.Bits.{bit_xor}
use native.Mathlib.Decide.{ℕ_discrete}
use mathlib.Core.List.{List}
use lib.ListN.{length, get_or, set, length-set}
use lib.Seq.{get_or-set_same, get_or-set_other}
use Rattle.coding.proofs.double.Goals as goal

-- one entry more
set-by : (g : ℕ → ℕ) (l : List ℕ) (f : ℕ → ℕ) (j x : ℕ) → j < length l → ((q : ℕ) → q < j → g (get_or l q 0) ≡ f q) → g x ≡ f j
    → (q : ℕ) → q < j + 1 → g (get_or (set l j x) q 0) ≡ f q
set-by g l f j x h s e q m = go (ℕ_discrete q j)
  where
    go : Dec (q ≡ j) → g (get_or (set l j x) q 0) ≡ f q
    go (yes d) = rw d (ap g (get_or-set_same l j x 0 h) ∙ e)
    go (no d) = ap g (get_or-set_other l j q x 0 d) ∙ s q (omega arith)

pub loop-r-init : goal.loop-r-init
loop-r-init c = (search rules, search rules, λ g f x s w q l. w q (omega arith))

pub loop-r-preserved : goal.loop-r-preserved
loop-r-preserved c =
    let a = c.args in
    let loop = c.loop-r in (
      search rules,
      simp length-set loop.invariant.1,
      λ g f x s w q l.
          set-by g loop.words f (a.m + loop.r) _ (omega arith) (loop.invariant.2 g f x s w)
          (x _ ∙ ap (λ (y : ℕ). bit_xor y (g a.one)) (loop.invariant.2 g f x s w loop.r (omega arith)) ∙ s loop.r (omega arith)) q (omega arith),
    )

pub returns : goal.returns
returns c = (c.loop-r.invariant.1, λ g f x s w q l. c.loop-r.invariant.2 g f x s w q (omega arith))
