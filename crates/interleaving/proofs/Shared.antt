-- A matrix that two interleavers share: the first fills k < K in each block of each partition, and the second the holes K ≤ k < 32 * C that it
-- leaves. Each position is met by one bit of one of the two: `source` says which. Assumes nothing.
use mathlib.Core.Path.{◌≡◌, ap, ◌∙◌}
use mathlib.Core.Bool.{cond}
use Prim.Native.Nat.{ℕ, ◌*◌, ◌≤◌, ◌<◌, zero-le}
use native.Mathlib.Decide.{dec_lt}
use native.Mathlib.Omega.{arith}
use lib.Dec.{ltb, lt→ltb, ltb→lt}
use Rattle.interleaving.specs.declared.Position.{Position}
use Rattle.interleaving.specs.Matrix.{Inside}
use Rattle.interleaving.specs.Once.{PositionsOnce}
use Rattle.interleaving.specs.Source.{Source, first, second, at, Either}
use Rattle.interleaving.specs.InverseI.{k_of_position}
use Rattle.interleaving.proofs.Matrix.{cond-true, cond-false}
use Rattle.interleaving.proofs.Spot as Spot
use Rattle.interleaving.proofs.Fills as F

-- the position of a bit, and the bit of a position
unfoldable pub position : (a a' : F.Assignment) (C : ℕ) → Source → Position
position a a' C = at (F.position_by a C) (F.position_by a' C)

unfoldable pub source : (a a' : F.Assignment) (g K : ℕ) → Position → Source
source a a' g K p = cond (ltb (k_of_position g p) K) (first (F.source_by a g p)) (second (F.source_by a' g p))

module _ (a a' : F.Assignment) (N N' J B g h K : ℕ) (g-divides : g * h ≡ 32) (h_k : K ≤ 32 * (9 * g))
    (fill : F.Fills a N J B 0 K) (fill' : F.Fills a' N' J B K (32 * (9 * g))) where
  all : 32 * (9 * g) ≤ 32 * (9 * g)
  all = omega arith

  early : (p : Position) → k_of_position g p < K → source a a' g K p ≡ first (F.source_by a g p)
  unfolding source
  early p l = cond-true (ltb (k_of_position g p) K) _ _ (lt→ltb (k_of_position g p) K l)

  late : (p : Position) → K ≤ k_of_position g p → source a a' g K p ≡ second (F.source_by a' g p)
  unfolding source
  late p l = cond-false (ltb (k_of_position g p) K) _ _ (λ t. let m = ltb→lt (k_of_position g p) K t in omega arith)

  there : (s : Source) → Either N N' s → Inside J B (9 * g) (position a a' (9 * g) s)
  unfolding position
  there (first i) hi = F.inside a N J B g h 0 K g-divides h_k fill i hi
  there (second i) hi = F.inside a' N' J B g h K (32 * (9 * g)) g-divides all fill' i hi

  there_back : (s : Source) → Either N N' s → source a a' g K (position a a' (9 * g) s) ≡ s
  unfolding position
  there_back (first i) hi =
      early _ (rw (F.k-position a N J B g h 0 K g-divides h_k fill i hi) (fill.k_lt i hi))
      ∙ ap first (F.source-position a N J B g h 0 K g-divides h_k fill i hi)
  there_back (second i) hi =
      late _ (rw (F.k-position a' N' J B g h K (32 * (9 * g)) g-divides all fill' i hi) (fill'.k-ge i hi))
      ∙ ap second (F.source-position a' N' J B g h K (32 * (9 * g)) g-divides all fill' i hi)

  -- a position's bit is there, and goes to the position
  found : (p : Position) → Inside J B (9 * g) p → Either N N' (source a a' g K p) × (position a a' (9 * g) (source a a' g K p) ≡ p)
  unfolding position
  found p hp =
      elim (dec_lt (k_of_position g p) K) [
        | yes l ↦
            rw (early p l)
            (F.source-lt a N J B g h 0 K g-divides h_k fill p hp zero-le l, F.position-source a N J B g h 0 K g-divides h_k fill p hp zero-le l)
        | no f ↦
            let l : K ≤ k_of_position g p = omega arith in
            let u = Spot.k_lt J B g h g-divides p in
            rw (late p l) (
              F.source-lt a' N' J B g h K (32 * (9 * g)) g-divides all fill' p hp l u,
              F.position-source a' N' J B g h K (32 * (9 * g)) g-divides all fill' p hp l u,
            )
      ]

  pub shared-once : PositionsOnce (Either N N') J B (9 * g) (position a a' (9 * g)) (source a a' g K)
  shared-once = record { there = there; back = λ p hp. (found p hp).0; there_back = there_back; back-there = λ p hp. (found p hp).1 }
