-- A matrix whose cells are each met once holds the bits that were written, each at its cell: both round trips, for any place map with a map back.
-- Assumes nothing.
use mathlib.Core.Path.{◌≡◌, ap, sym, ◌∙◌}
use Prim.Native.Nat.{ℕ, ◌≤◌, ◌<◌}
use native.Mathlib.Omega.{arith}
use Rattle.bits.specs.Bits.{written}
use Rattle.bits.specs.Once.{EachOnce, Below}
use Rattle.bits.proofs.Written.{written_once, written-other}

-- a cell holds its bit once that is written, and is as it was till then
module _ (N : ℕ) (place source : ℕ → ℕ) (o : EachOnce (Below N) N place source) (bits m : ℕ → ℕ) (n : ℕ) (hn : n ≤ N) (c : ℕ) (hc : c < N) where
  pub new : source c < n → written place bits n m c ≡ bits (source c)
  new h = written_once place bits n m c (source c) h (o.back-there c hc) (λ i l e. sym (o.there_back i (omega arith)) ∙ ap source e)

  pub old : n ≤ source c → written place bits n m c ≡ m c
  old h = written-other place bits n m c (λ i l e. let z : i ≡ source c = sym (o.there_back i (omega arith)) ∙ ap source (sym e) in omega arith)

-- there and back: the bits written to a matrix are read from it, and a matrix whose bits were read is written again
module _ (N : ℕ) (place source : ℕ → ℕ) (o : EachOnce (Below N) N place source) (m : ℕ → ℕ) where
  pub read-written : (bits : ℕ → ℕ) (i : ℕ) → i < N → written place bits N m (place i) ≡ bits i
  read-written bits i h =
      let l : source (place i) < N = o.back (place i) (o.there i h) in
      new N place source o bits m N (omega arith) (place i) (o.there i h) l ∙ ap bits (o.there_back i h)
