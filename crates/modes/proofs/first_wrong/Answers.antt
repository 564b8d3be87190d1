use mathlib.Core.Path.{◌≡◌, refl, sym, ap₂, ◌∙◌}
use mathlib.Core.List.{List, ◌∷◌}
use mathlib.Core.Option.{Option}
use Prim.Native.Nat.{ℕ, suc, ◌+◌, ◌≤◌, ◌<◌}
use native.Mathlib.Numerals.{add-one}
use native.Mathlib.Omega.{arith}
use borrow.Author.Tests.{eq-eqb, ne_eqb, lt-ltb, le-ltb}
use lib.ListN.{length, drop, get_or}
use lib.Seq.{drop-cons, drop-length}
use Rattle.runs.specs.Causes.{size, wrong}
use Rattle.modes.specs.Sizes.{placed, sizes}
use Rattle.modes.proofs.first_wrong.Goals as goal

-- what is wrong from place i on
abbrev from : List ℕ → List ℕ → ℕ → Option ℕ
from have want i = wrong i (sizes (drop i have) (drop i want))

module _ (have want : List ℕ) (i : ℕ) (hh : i < length have) (hw : i < length want) where
  opened : from have want i ≡ wrong i (size (get_or have i 0) (get_or want i 0) ∷ sizes (drop (suc i) have) (drop (suc i) want))
  unfolding sizes
  opened = ap₂ (λ (x y : List ℕ). wrong i (sizes x y)) (drop-cons have i 0 hh) (drop-cons want i 0 hw)

  same : get_or have i 0 ≡ get_or want i 0 → from have want i ≡ from have want (i + 1)
  unfolding wrong
  same e = opened ∙ (rw (eq-eqb _ _ e, add-one i))

  other : (get_or have i 0 ≡ get_or want i 0 → ⊥) → from have want i ≡ placed (length have) i
  unfolding wrong
  other e = opened ∙ (rw (ne_eqb _ _ e, lt-ltb i (length have) hh))

ended : (have want : List ℕ) (i : ℕ) → length have ≤ i → i ≤ length have → from have want i ≡ placed (length have) i
unfolding wrong sizes
ended have want i h l =
    let e : length have ≡ i = omega arith in
    rw (← e, drop-length have, le-ltb (length have) (length have) (omega arith))

pub loop-i-init : goal.loop-i-init
loop-i-init c = (omega arith, refl)

pub bounds-want-i : goal.bounds-want-i
bounds-want-i c = omega (arith, c.requires)

pub returns-then-have-i : goal.returns-then-have-i
returns-then-have-i c =
    let a = c.args in
    sym (c.loop-i.invariant.1 ∙ other a.have.now a.want.now c.loop-i.i (omega arith) (omega (arith, c.requires)) c.if-have-i.true)

pub loop-i-preserved : goal.loop-i-preserved
loop-i-preserved c =
    let a = c.args in
    (omega arith, c.loop-i.invariant.1 ∙ same a.have.now a.want.now c.loop-i.i (omega arith) (omega (arith, c.requires)) c.if-have-i.false)

pub returns : goal.returns
returns c =
    let a = c.args in
    let e : c.loop-i.i ≡ length a.have.now = omega (arith, c.loop-i.invariant.0) in
    sym (rw e at (c.loop-i.invariant.1 ∙ ended a.have.now a.want.now c.loop-i.i (omega arith) c.loop-i.invariant.0))
