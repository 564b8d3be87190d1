-- The cell of a step, as the code computes it: by the partition, and the counter in closed form. Assumes nothing.
use mathlib.Core.Path.{◌≡◌, refl, sym}
use Prim.Native.Nat.{ℕ, ◌+◌, ◌*◌, ◌/◌, ◌%◌, ◌≤◌, ◌<◌}
use native.Mathlib.Nat.{mod-lt}
use native.Mathlib.Omega.{arith}
use lib.ListN.{get_or}
use Rattle.interleaving.specs.Matrix.{matrix_row, matrix_column, cell_of, cell}
use Rattle.interleaving.specs.EquationsIV as IV
use Rattle.interleaving.specs.InverseIV as Inv
use Rattle.interleaving.specs.PX.{partitions, runs, order, cells, place}
use Rattle.interleaving.proofs.BlockIV as P
use Rattle.interleaving.proofs.Slot.{slot_is}
use Rattle.interleaving.proofs.Counter.{pt-is}
use Rattle.interleaving.proofs.SlotsIV as L
use Rattle.interleaving.proofs.PXKinds.{Kind, kind-is, coded_bytes-is}
use Rattle.px_gather.specs.Entries.{entry}

pub entry-is : (kind p n : ℕ)
    → (32 * ((n / 1152 + (n % 1152 + p * 7)) % 32) + 11 * n % 1152 / 36) * (partitions kind * 36) + (36 * p + 11 * n % 1152 % 36) ≡ entry kind p n
unfolding entry cell cell_of matrix_row matrix_column IV.row_at
entry-is kind p n =
    rw (
      P.block-is (partitions kind) 32 36 (runs kind) 5027 48 (order kind) (omega arith) (omega arith) refl p n,
      P.column-is (partitions kind) 32 36 (runs kind) 5027 48 (order kind) (omega arith) (omega arith) refl n,
    )

module _ (kind : ℕ) (hk : kind < 2) where
  abbrev J : ℕ
  J = partitions kind

  abbrev M : ℕ
  M = runs kind

  abbrev K : Kind J M (order kind)
  K = kind-is kind hk

  module _ (i : ℕ) where
    -- the step with the offset
    abbrev x : ℕ
    x = i + 2 * (M / 4)

    -- its partition index, read off its place in the round of M * J = 8 steps
    slot : x % 8 / M ≡ IV.part_index J 32 36 M (order kind) i
    unfolding IV.part_index
    slot = rw K.eight at (sym (slot_is J M K.J-pos K.M-pos x))

    module _ (p : ℕ) (p-is : p ≡ x % 8 / M) where
      pub part-lt : p < J
      part-lt = rw (p-is, slot) (unfold IV.part_index in mod-lt _ K.J-pos)

      pub part-is : p ≡ IV.partition J 32 36 M (order kind) i
      unfolding IV.partition
      part-is = rw (← slot, ← p-is) (sym (K.plain p part-lt))

      -- what the counter and the missed steps come to
      sum_is : IV.pt J 32 36 M (order kind) i + Inv.missed M p ≡ x / 8 * M + x % M
      sum_is = rw (p-is, slot) (rw K.eight at (pt-is J 32 36 M (order kind) (order kind) K.J-pos K.M-pos K.perm i))

      pub missed-le : Inv.missed M p ≤ x / 8 * M + x % M
      missed-le = omega (arith, sum_is)

      module _ (n : ℕ) (n-is : n + Inv.missed M p ≡ x / 8 * M + x % M) where
        pub n-pt : n ≡ IV.pt J 32 36 M (order kind) i
        n-pt = omega (arith, sum_is)

        pub counter-lt : i < cells kind → n < 36864
        counter-lt h =
            rw n-pt
            (rw K.turns at
            (L.pt-lt J 32 36 M K.T (order kind) (order kind) K.J-pos K.M-pos K.perm i (rw K.turns (omega (arith, coded_bytes-is kind hk)))))

        pub place_is : entry kind p n ≡ place kind i
        unfolding entry place IV.place IV.partition
        place_is =
            let part : get_or (order kind) p 0 ≡ p = K.plain p part-lt in
            rw (n-pt, ← slot, ← p-is, part)
