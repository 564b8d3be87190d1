-- An interleaver as an assignment of a partition, a block and a k to each bit, with the bit that each (partition, block, k) is met by.
-- `Fills a N J B lo up`: its N bits meet each (partition, block, k) with partition < J, block < B and lo ≤ k < up once.
-- Where that is all of the k, each position is met once. Assumes nothing.
use mathlib.Core.Path.{◌≡◌, ap, ◌∙◌}
use Prim.Native.Nat.{ℕ, ◌*◌, ◌≤◌, ◌<◌, zero-le}
use native.Mathlib.Omega.{arith}
use Rattle.bits.specs.Once.{Below}
use Rattle.interleaving.specs.declared.Position.{Position}
use Rattle.interleaving.specs.Matrix.{Inside}
use Rattle.interleaving.specs.Once.{PositionsOnce}
use Rattle.interleaving.specs.InverseI.{spot, k_of_position}
use Rattle.interleaving.proofs.Spot as Spot

pub record Assignment : Type 0 where
  pub part : ℕ → ℕ
  pub block : ℕ → ℕ
  pub k_of : ℕ → ℕ
  pub index : (p b k : ℕ) → ℕ

pub record Fills (a : Assignment) (N J B lo up : ℕ) : Type 0 where
  pub part-lt : (i : ℕ) → i < N → a.part i < J
  pub block-lt : (i : ℕ) → i < N → a.block i < B
  pub k-ge : (i : ℕ) → i < N → lo ≤ a.k_of i
  pub k_lt : (i : ℕ) → i < N → a.k_of i < up
  pub index_is : (i : ℕ) → i < N → a.index (a.part i) (a.block i) (a.k_of i) ≡ i
  pub index-lt : (p b k : ℕ) → p < J → b < B → lo ≤ k → k < up → a.index p b k < N
  pub part-index : (p b k : ℕ) → p < J → b < B → lo ≤ k → k < up → a.part (a.index p b k) ≡ p
  pub block-index : (p b k : ℕ) → p < J → b < B → lo ≤ k → k < up → a.block (a.index p b k) ≡ b
  pub k-index : (p b k : ℕ) → p < J → b < B → lo ≤ k → k < up → a.k_of (a.index p b k) ≡ k

-- the position of a bit, and the bit of a position
unfoldable pub position_by : Assignment → (C i : ℕ) → Position
position_by a C i = spot C (a.part i) (a.block i) (a.k_of i)

unfoldable pub source_by : Assignment → (g : ℕ) → Position → ℕ
source_by a g at = a.index at.partition at.block (k_of_position g at)

module _ (a : Assignment) (N J B g h lo up : ℕ) (g-divides : g * h ≡ 32) (within : up ≤ 32 * (9 * g)) (fill : Fills a N J B lo up) where
  module _ (i : ℕ) (hi : i < N) where
    pub inside : Inside J B (9 * g) (position_by a (9 * g) i)
    unfolding position_by
    inside = Spot.spot-inside J B g h g-divides _ _ _ (fill.part-lt i hi) (fill.block-lt i hi)

    pub k-position : k_of_position g (position_by a (9 * g) i) ≡ a.k_of i
    unfolding position_by
    k-position = Spot.k-spot J B g h g-divides _ _ _ (omega (arith, fill.k_lt i hi))

    pub source-position : source_by a g (position_by a (9 * g) i) ≡ i
    unfolding source_by position_by spot
    source-position = ap (a.index (a.part i) (a.block i)) k-position ∙ fill.index_is i hi

  module _ (at : Position) (l : Inside J B (9 * g) at) (ge : lo ≤ k_of_position g at) (lt : k_of_position g at < up) where
    pub source-lt : source_by a g at < N
    unfolding source_by
    source-lt = fill.index-lt _ _ _ l.partition-lt l.block-lt ge lt

    pub position-source : position_by a (9 * g) (source_by a g at) ≡ at
    unfolding position_by source_by
    position-source =
        let p = at.partition in
        let b = at.block in
        let k = k_of_position g at in
        let hp = l.partition-lt in
        let hb = l.block-lt in
        rw (fill.part-index p b k hp hb ge lt, fill.block-index p b k hp hb ge lt, fill.k-index p b k hp hb ge lt) (Spot.spot_is J B g h g-divides at l)

-- an interleaver that fills the whole matrix
pub fills-once : (a : Assignment) (N J B g h : ℕ) (g-divides : g * h ≡ 32) → Fills a N J B 0 (32 * (9 * g))
    → PositionsOnce (Below N) J B (9 * g) (position_by a (9 * g)) (source_by a g)
fills-once a N J B g h d fill =
    let up : ℕ = 32 * (9 * g) in
    record {
      there = inside a N J B g h 0 up d (omega arith) fill;
      back = λ at l. source-lt a N J B g h 0 up d (omega arith) fill at l zero-le (Spot.k_lt J B g h d at);
      there_back = source-position a N J B g h 0 up d (omega arith) fill;
      back-there = λ at l. position-source a N J B g h 0 up d (omega arith) fill at l zero-le (Spot.k_lt J B g h d at);
    }
