-- S-8: the lookup of sixteen blocks accepts exactly the controls of a covered mode and a number, and names these; and what a block is that it refuses. Assumes nothing.
use mathlib.Core.Path.{◌≡◌, refl, ap, ap₂, ◌∙◌}
use mathlib.Core.List.{List}
use mathlib.Core.Bool.{Bool, true, false, cond, not, ◌&&◌}
use Prim.Native.Nat.{ℕ, ◌≤◌, ◌<◌}
use native.Mathlib.Omega.{arith}
use borrow.Author.Tests.{ltb-false, eq-eqb, eqb-true, not-false}
use lib.Dec.{eqb, ltb}
use lib.ListN.{length}
use Rattle.std.specs.Prelude.{Option, Some, None, Result, Ok, Err}
use Rattle.bits.specs.Tests.{lowest}
use Rattle.bits.proofs.Tests.{and-true, same_true, lowest-below, lowest-none}
use Rattle.control.specs.Control.{block_of, control_of}
use Rattle.control.specs.Departs.{block_at, number_in, departs, strays}
use Rattle.control.specs.Modes.{covered}
use Rattle.blockset.specs.LookupFrame.{no_block, fitting, named, frame_numbers, says, faulty, unfit, looked_up_frame}
use Rattle.control.specs.declared.BlockNumbers.{BlockNumbers}
use Rattle.control.specs.Lookup.{block_numbers}
use Rattle.blockset.specs.declared.FrameNumbers.{FrameNumbers}
use Rattle.blockset.specs.declared.SetFault.{SetFault}
use Rattle.blockset.specs.declared.SetFault.TheVariants.{Faulty, Unfit}
use Rattle.control.proofs.Found.{Is, looked-up-found, looked-up-is, looked-up-no-block}
use Rattle.control.proofs.Numbers.{control-is, number-in-lt}
use Rattle.control.proofs.Sent.{block-at}

-- ---- every control of a covered mode and a number is accepted

fitting-itself : (m z c : ℕ) → fitting (Some (block_numbers m 0 z)) c (Some (block_numbers m c z)) ≡ true
fitting-itself m z c = rw (eq-eqb m m refl, eq-eqb z z refl, eq-eqb c c refl)

module _ (control : List ℕ) (m z : ℕ) (cov : covered m ≡ true) (hz : z < 8) (h : (c : ℕ) → c < 16 → block_at control c ≡ block_of m c z) where
  says_so : (c : ℕ) → c < 16 → says control c ≡ Some (block_numbers m c z)
  unfolding says
  says_so c hc = looked-up-found (block_at control c) m c z cov hc hz (h c hc)

  never-faulty : (c : ℕ) → c < 16 → faulty control c ≡ false
  unfolding faulty
  never-faulty c hc = ap no_block (says_so c hc)

  never-unfit : (c : ℕ) → c < 16 → unfit control c ≡ false
  unfolding unfit
  never-unfit c hc = ap₂ (λ (x y : Option BlockNumbers). not (fitting x c y)) (says_so 0 (omega arith)) (says_so c hc) ∙ ap not (fitting-itself m z c)

  pub of-its-blocks : looked_up_frame control ≡ Ok (frame_numbers m z)
  unfolding looked_up_frame
  of-its-blocks =
      rw (lowest-none 16 (faulty control) never-faulty, lowest-none 16 (unfit control) never-unfit) (ap named (says_so 0 (omega arith)))

-- The control of a covered mode and a number is accepted with them.
pub control-accepted : (m z : ℕ) → covered m ≡ true → z < 8 → looked_up_frame (control_of m z) ≡ Ok (frame_numbers m z)
control-accepted m z cov hz = of-its-blocks (control_of m z) m z cov hz (block-at m z)

-- What strays nowhere in a reading is accepted with its mode and its number.
pub reading-accepted : (m : ℕ) (control : List ℕ) → covered m ≡ true → ((c : ℕ) → c < 16 → strays m control c ≡ false)
    → looked_up_frame control ≡ Ok (frame_numbers m (number_in m control))
unfolding strays departs
reading-accepted m control cov h =
    of-its-blocks control m (number_in m control) cov (number-in-lt m control) (λ c hc. same_true _ _ (not-false _ (h c hc)))

-- ---- and nothing else

-- a block that fits a first block which names a mode and a number
fits-named : (first block : Option BlockNumbers) (c m z : ℕ) → named first ≡ Ok (frame_numbers m z) → fitting first c block ≡ true → block ≡ Some (block_numbers m c z)
fits-named None block c m z n e = cc
fits-named (Some first) None c m z n e = cc
fits-named (Some first) (Some block) c m z n e =
    let p = and-true (eqb block.mode first.mode && eqb block.reserved first.reserved) (eqb block.count c) e in
    let q = and-true (eqb block.mode first.mode) (eqb block.reserved first.reserved) p.0 in
    let f : frame_numbers first.mode first.reserved ≡ frame_numbers m z = cc in
    let em : block.mode ≡ m = eqb-true block.mode first.mode q.0 ∙ ap (λ (x : FrameNumbers). x.mode) f in
    let ez : block.reserved ≡ z = eqb-true block.reserved first.reserved q.1 ∙ ap (λ (x : FrameNumbers). x.reserved) f in
    let ec : block.count ≡ c = eqb-true block.count c p.1 in
    λ i. Some (block_numbers (em i) (ec i) (ez i))

accepted-cases : (s t : Bool) (a b : SetFault) (x : Result FrameNumbers SetFault) (n : FrameNumbers) → cond s (Err a) (cond t (Err b) x) ≡ Ok n → (t ≡ false) × (x ≡ Ok n)
accepted-cases true t a b x n e = cc
accepted-cases false true a b x n e = cc
accepted-cases false false a b x n e = (refl, e)

module _ (control : List ℕ) (m z : ℕ) (e : looked_up_frame control ≡ Ok (frame_numbers m z)) where
  cases : (ltb (lowest 16 (unfit control)) 16 ≡ false) × (named (says control 0) ≡ Ok (frame_numbers m z))
  unfolding looked_up_frame
  cases =
      let bad : ℕ = lowest 16 (faulty control) in
      let odd : ℕ = lowest 16 (unfit control) in
      accepted-cases (ltb bad 16) (ltb odd 16) (Faulty bad) (Unfit odd) (named (says control 0)) (frame_numbers m z) e

  each : (c : ℕ) → c < 16 → Is (block_at control c) m c z
  unfolding unfit says
  each c hc =
      let past : 16 ≤ lowest 16 (unfit control) = ltb-false _ 16 cases.0 in
      let fit : fitting (says control 0) c (says control c) ≡ true = not-false _ (lowest-below 16 (unfit control) c (omega arith)) in
      looked-up-is (block_at control c) m c z (fits-named (says control 0) (says control c) c m z cases.1 fit)

  pub accepted-covered : covered m ≡ true
  accepted-covered = (each 0 (omega arith)).is-covered

  pub accepted-number : z < 8
  accepted-number = (each 0 (omega arith)).number-low

  pub accepted-is : length control ≡ 4096 → control ≡ control_of m z
  accepted-is l = control-is m z control l (λ c hc. (each c hc).block-is)

-- ---- what is refused: a block that is faulty by itself is the block of no covered mode, count and number

pub faulty-no-block : (control : List ℕ) (c m n z : ℕ) → faulty control c ≡ true → covered m ≡ true → n < 16 → z < 8 → block_at control c ≡ block_of m n z → ⊥
unfolding faulty says
faulty-no-block control c m n z f cov hn hz e =
    let g : faulty control c ≡ false = ap no_block (looked-up-found (block_at control c) m n z cov hn hz e) in
    let z : ◌≡◌ {A = ℕ} 0 1 = cc in
    omega arith

pub no-block-faulty : (control : List ℕ) (c : ℕ)
    → ((m n z : ℕ) → covered m ≡ true → n < 16 → z < 8 → block_at control c ≡ block_of m n z → ⊥) → faulty control c ≡ true
unfolding faulty says
no-block-faulty control c h = ap no_block (looked-up-no-block (block_at control c) h)

-- and beside a first block of a covered mode, count and number, a block of such does not fit exactly if its mode or its number differs from the first one's, or its count from its position
pub unfit-is : (control : List ℕ) (c m₀ n₀ z₀ m n z : ℕ) → covered m₀ ≡ true → n₀ < 16 → z₀ < 8 → covered m ≡ true → n < 16 → z < 8
    → block_at control 0 ≡ block_of m₀ n₀ z₀ → block_at control c ≡ block_of m n z → unfit control c ≡ not (eqb m m₀ && eqb z z₀ && eqb n c)
unfolding unfit says
unfit-is control c m₀ n₀ z₀ m n z cov₀ hn₀ hz₀ cov hn hz e₀ e =
    ap₂ (λ (x y : Option BlockNumbers). not (fitting x c y)) (looked-up-found (block_at control 0) m₀ n₀ z₀ cov₀ hn₀ hz₀ e₀) (looked-up-found (block_at control c) m n z cov hn hz e)
