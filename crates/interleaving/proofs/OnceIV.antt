-- Interleaver IV meets each cell of the internal matrix once, over its N = 32 * B * (J * C) bits. Conditions: v names each partition once; M
-- divides the cells of a partition, M * T ≡ B * (32 * C); and 11 has an inverse e modulo 32 * C, 11 * e ≡ 32 * C * f + 1. Assumes nothing.
use mathlib.Core.Path.{◌≡◌, ap}
use mathlib.Core.List.{List}
use Prim.Native.Nat.{ℕ, ◌+◌, ◌*◌, ◌<◌}
use native.Mathlib.Nat.{mul-pos}
use native.Mathlib.Omega.{arith}
use lib.ListN.{get_or}
use Rattle.bits.specs.Once.{EachOnce, Below}
use Rattle.interleaving.proofs.Matrix.{cell-lt, cell-is, partition_of-lt, block_of-lt, row_of-lt, column_of-lt, partition_of-cell, block_of-cell, row_of-cell, column_of-cell}
use Rattle.interleaving.specs.Matrix.{partition_of, block_of, row_of, column_of}
use Rattle.interleaving.proofs.Permutation.{Permutes}
use Rattle.interleaving.specs.EquationsIV as IV
use Rattle.interleaving.specs.InverseIV as Inv
use Rattle.interleaving.proofs.BlockIV as P
use Rattle.interleaving.proofs.Counter as K
use Rattle.interleaving.proofs.SlotsIV as L
use Rattle.interleaving.specs.InverseIV.{source}

module _ (J B C M T e f : ℕ) (v w : List ℕ)
    (h_j : 0 < J) (h_b : 0 < B) (h_c : 0 < C) (h_m : 0 < M)
    (turns : M * T ≡ B * (32 * C)) (invertible : 11 * e ≡ 32 * C * f + 1) (perm : Permutes J v w) where
  module _ (i : ℕ) where
    p : ℕ
    p = IV.partition J B C M v i

    n : ℕ
    n = IV.pt J B C M v i

    hp : p < J
    unfolding p IV.partition
    hp = perm.v-lt _ (K.part_index-lt J B C M v w h_j h_m perm i)

    hb : IV.block_at J B C M v p n < B
    hb = P.block-lt J B C M e f v h_b h_c invertible p n

    hr : IV.row_at J B C M v n < 32
    hr = P.row_lt J B C M e f v h_b h_c invertible n

    hc : IV.column_at J B C M v n < C
    hc = P.column-lt J B C M e f v h_b h_c invertible n

    pub place-lt : IV.place J B C M v i < 32 * B * (J * C)
    unfolding IV.place p n
    place-lt = cell-lt J C _ _ _ _ hp hr hc B hb

    pub source-place : i < 32 * B * (J * C) → source J B C M e w (IV.place J B C M v i) ≡ i
    unfolding IV.place source p n IV.partition hp hr hc
    source-place hi =
        let hn : n < B * (32 * C) = rw turns at (L.pt-lt J B C M T v w h_j h_m perm i (omega (arith, ap (λ (t : ℕ). J * t) turns))) in
        simp (
          partition_of-cell,
          block_of-cell,
          row_of-cell,
          column_of-cell,
          hp,
          hr,
          hc,
          P.count-is J B C M e f v h_b h_c invertible p n hn,
          perm.w-v (IV.part_index J B C M v i) (K.part_index-lt J B C M v w h_j h_m perm i),
        ) (L.index_is J B C M T v w h_j h_m perm i)

  -- the partition, the counter and the bit of a cell
  module _ (x : ℕ) (hx : x < 32 * B * (J * C)) where
    q : ℕ
    q = partition_of J C x

    m : ℕ
    m = Inv.count B C e q (block_of J C x) (row_of J C x) (column_of J C x)

    width : 0 < J * C
    width = mul-pos h_j h_c

    hq : q < J
    unfolding q
    hq = partition_of-lt J C x width

    hs : get_or w q 0 < J
    hs = perm.w-lt q hq

    hm : m < M * T
    unfolding m
    hm = rw turns (P.count-lt J B C M e f v h_b h_c invertible q _ _ _)

    pub source-lt : source J B C M e w x < 32 * B * (J * C)
    unfolding source q m
    source-lt = omega (arith, L.index-lt J B C M T v w h_j h_m perm (get_or w q 0) m hs hm, ap (λ (t : ℕ). J * t) turns)

    pub place-source : IV.place J B C M v (source J B C M e w x) ≡ x
    unfolding IV.place IV.partition source q m
    place-source =
        let hb = block_of-lt J C x width B hx in
        let hr = row_of-lt J C x width in
        let hc = column_of-lt J C x width in
        simp (
          L.part_index-index J B C M T v w h_j h_m perm (get_or w q 0) m hs,
          L.pt-index J B C M T v w h_j h_m perm (get_or w q 0) m hs,
          perm.v-w q hq,
          P.block-count J B C M e f v h_b h_c invertible q _ _ _ hb hr hc,
          P.row_count J B C M e f v h_b h_c invertible q _ _ _ hb hr hc,
          P.column-count J B C M e f v h_b h_c invertible q _ _ _ hb hr hc,
        ) (cell-is J C x width)

  pub each-once-IV : EachOnce (Below (32 * B * (J * C))) (32 * B * (J * C)) (IV.place J B C M v) (source J B C M e w)
  each-once-IV = record { there = λ i _. place-lt i; back = source-lt; there_back = source-place; back-there = place-source }
