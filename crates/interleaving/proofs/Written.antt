-- A matrix whose cells are each met once holds the bits that were written, each at its cell. Assumes nothing.
use mathlib.Core.Path.{◌≡◌, refl, sym, ◌∙◌}
use mathlib.Core.Bool.{cond}
use Prim.Native.Nat.{ℕ, suc, ◌<◌}
use native.Mathlib.Decide.{dec_lt}
use native.Mathlib.Omega.{arith}
use lib.Dec.{ltb, lt→ltb, ltb→lt}
use Rattle.bits.specs.Bits.{written}
use Rattle.bits.proofs.Written.{written_once, written-other}
use Rattle.bits.proofs.Once.{new, old}
use Rattle.interleaving.proofs.Matrix.{cond-true, cond-false}
use Rattle.bits.specs.Once.{EachOnce, Below}
use Rattle.interleaving.specs.Source.{Source, first, second, at, Either}

-- 10.2.2.2: where each write is followed by a read of the cells in order, the step i reads its cell's new bit if that is written by then, and else what stood there
pub streamed : (N : ℕ) (place source : ℕ → ℕ) → EachOnce (Below N) N place source → (bits m : ℕ → ℕ) (i : ℕ) → i < N
    → written place bits (suc i) m i ≡ cond (ltb (source i) (suc i)) (bits (source i)) (m i)
streamed N place source o bits m i hi =
    elim (dec_lt (source i) (suc i)) [
      | yes l ↦ new N place source o bits m (suc i) hi i hi l ∙ sym (cond-true (ltb (source i) (suc i)) _ _ (lt→ltb (source i) (suc i) l))
      | no f ↦
          old N place source o bits m (suc i) hi i hi (omega arith)
          ∙ sym (cond-false (ltb (source i) (suc i)) _ _ (λ t. f (ltb→lt (source i) (suc i) t)))
    ]

-- two streams, written one after the other into one matrix
module _ (N N' L : ℕ) (place place' : ℕ → ℕ) (source : ℕ → Source) (o : EachOnce (Either N N') L (at place place') source) (bits bits' m : ℕ → ℕ) where
  pub lands : (s : Source) → Either N N' s → written place' bits' N' (written place bits N m) (at place place' s) ≡ at bits bits' s
  lands (first i) h =
      written-other place' bits' N' _ _ (λ j l e. let z : ◌≡◌ {A = ℕ} 0 1 = cc (o.there_back (first i) h, o.there_back (second j) l) in omega arith)
      ∙ written_once place bits N m _ i h refl (λ j l e. cc (o.there_back (first i) h, o.there_back (first j) l))
  lands (second i) h = written_once place' bits' N' _ _ i h refl (λ j l e. cc (o.there_back (second i) h, o.there_back (second j) l))

  pub both-written : (c : ℕ) → c < L → written place' bits' N' (written place bits N m) c ≡ at bits bits' (source c)
  both-written c h = rw (o.back-there c h) at (lands (source c) (o.back c h))
