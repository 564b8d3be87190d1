-- Interleaver I alone fills a matrix of C = 9 * g columns to a partition, where g * h ≡ 32 and v names each partition once: each position is met once, and
-- so each cell. For M = 1, and for M = 2 or 4 (in the proof any M but 1) with B = M, as the tables have it. Assumes nothing.
use mathlib.Core.Path.{◌≡◌}
use mathlib.Core.Logic.{◌≢◌}
use mathlib.Core.List.{List}
use Prim.Native.Nat.{ℕ, ◌*◌, ◌<◌}
use native.Mathlib.Nat.{mul-pos}
use native.Mathlib.Omega.{arith}
use Rattle.bits.specs.Once.{EachOnce, Below}
use Rattle.interleaving.specs.Matrix.{position_of}
use Rattle.interleaving.specs.Once.{PositionsOnce}
use Rattle.interleaving.specs.EquationsI as I
use Rattle.interleaving.specs.InverseI.{spot}
use Rattle.interleaving.proofs.Block.{g-pos}
use Rattle.interleaving.proofs.Matrix.{cells-once}
use Rattle.interleaving.proofs.Permutation.{Permutes}
use Rattle.interleaving.proofs.Fills.{position_by, source_by, fills-once}
use Rattle.interleaving.proofs.FillsI as One
use Rattle.interleaving.proofs.FillsIM as More

module _ (J g h : ℕ) (v w : List ℕ) (h_j : 0 < J) (g-divides : g * h ≡ 32) (perm : Permutes J v w) where
  width : 0 < J * (9 * g)
  width = mul-pos h_j (let p = g-pos g h g-divides in omega arith)

  pub positions-once-I : (B : ℕ) → 0 < B
      → PositionsOnce (Below (32 * B * (J * (9 * g)))) J B (9 * g) (I.position J B (9 * g) 1 v) (source_by (One.assignment J B (9 * g) v w) g)
  unfolding position_by spot I.position One.assignment
  positions-once-I B h_b =
      let all : J * B * (32 * (9 * g)) ≡ 32 * B * (J * (9 * g)) = omega arith in
      fills-once (One.assignment J B (9 * g) v w) _ J B g h g-divides (rw all at (One.fills J B (9 * g) v w h_j h_b perm (32 * (9 * g))))

  pub each-once-I : (B : ℕ) → 0 < B
      → EachOnce (Below (32 * B * (J * (9 * g)))) (32 * B * (J * (9 * g)))
      (I.place J B (9 * g) 1 v) (λ x. source_by (One.assignment J B (9 * g) v w) g (position_of J (9 * g) x))
  unfolding I.place
  each-once-I B h_b = cells-once _ J B (9 * g) _ _ width (positions-once-I B h_b)

  pub positions-once-I-runs : (M : ℕ) → 0 < M → M ≢ 1
      → PositionsOnce (Below (32 * M * (J * (9 * g)))) J M (9 * g) (I.position J M (9 * g) M v) (source_by (More.assignment J (9 * g) M v w) g)
  unfolding position_by spot I.position More.assignment
  positions-once-I-runs M h_m plural =
      let all : J * M * (32 * (9 * g)) ≡ 32 * M * (J * (9 * g)) = omega arith in
      fills-once (More.assignment J (9 * g) M v w) _ J M g h g-divides (rw all at (More.fills J (9 * g) M v w h_j h_m plural perm (32 * (9 * g))))

  pub each-once-I-runs : (M : ℕ) → 0 < M → M ≢ 1
      → EachOnce (Below (32 * M * (J * (9 * g)))) (32 * M * (J * (9 * g)))
      (I.place J M (9 * g) M v) (λ x. source_by (More.assignment J (9 * g) M v w) g (position_of J (9 * g) x))
  unfolding I.place
  each-once-I-runs M h_m plural = cells-once _ J M (9 * g) _ _ width (positions-once-I-runs M h_m plural)
