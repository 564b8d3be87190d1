-- Interleavers I (with M = 1) and II together, in one matrix: the PM, SM and SB interleaving processes. Conditions: C = 9 * g with g * h ≡ 32, v
-- names each partition once, b = J * d, I₀ = J * B * K and K + d ≡ 32 * C. Assumes nothing.
use mathlib.Core.Path.{◌≡◌}
use mathlib.Core.List.{List}
use Prim.Native.Nat.{ℕ, ◌+◌, ◌*◌, ◌<◌}
use native.Mathlib.Omega.{arith}
use Rattle.interleaving.specs.declared.Position.{Position}
use Rattle.interleaving.specs.Once.{PositionsOnce}
use Rattle.interleaving.specs.Source.{Source, at, Either}
use Rattle.interleaving.proofs.Permutation.{Permutes}
use Rattle.interleaving.specs.EquationsI as I
use Rattle.interleaving.specs.EquationsII as II
use Rattle.interleaving.specs.InverseI.{spot}
use Rattle.interleaving.proofs.Fills.{position_by}
use Rattle.interleaving.proofs.FillsI as LI
use Rattle.interleaving.proofs.FillsII as LII
use Rattle.interleaving.proofs.Shared as S

-- the position of a bit: `first i` is the bit i of Interleaver I and `second i` of Interleaver II
abbrev pub position : (J B C b I₀ : ℕ) → List ℕ → Source → Position
position J B C b I₀ v = at (I.position J B C 1 v) (II.position J B C b I₀ v)

-- the bit of a position
unfoldable pub source : (J B g d K : ℕ) (v w : List ℕ) → Position → Source
source J B g d K v w p = S.source (LI.assignment J B (9 * g) v w) (LII.assignment J B (9 * g) d K v w) g K p

module _ (J B g h d K : ℕ) (v w : List ℕ) (h_j : 0 < J) (h_b : 0 < B) (hd : 0 < d) (g-divides : g * h ≡ 32) (all : K + d ≡ 32 * (9 * g))
    (perm : Permutes J v w) where
  pub positions-once-I-II : PositionsOnce (Either (J * B * K) (J * d * B)) J B (9 * g) (position J B (9 * g) (J * d) (J * B * K) v) (source J B g d K v w)
  unfolding source S.position position_by spot I.position II.position LI.assignment LII.assignment
  positions-once-I-II =
      S.shared-once (LI.assignment J B (9 * g) v w) (LII.assignment J B (9 * g) d K v w) (J * B * K) (J * d * B) J B g h K g-divides (omega arith)
      (LI.fills J B (9 * g) v w h_j h_b perm K) (rw all at (LII.fills J B (9 * g) d K v w h_j h_b hd perm))
