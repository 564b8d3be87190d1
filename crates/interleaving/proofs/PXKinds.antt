-- The two kinds of Tables 10-15, 10-16 and 10-18: what they share, so that one argument serves both. Assumes nothing.
use mathlib.Core.Path.{◌≡◌, refl}
use mathlib.Core.List.{List}
use Prim.Native.Nat.{ℕ, zero, suc, ◌*◌, ◌≤◌, ◌<◌}
use native.Mathlib.Omega.{arith}
use lib.ListN.{get_or}
use Rattle.bits.specs.Tests.{all}
use Rattle.interleaving.specs.PX.{v2, v4, partitions, runs, order, coded_bytes}
use Rattle.interleaving.proofs.Permutation.{Permutes, permutes, undone}

pub record Kind (J M : ℕ) (v : List ℕ) : Type 0 where
  pub J-pos : 0 < J
  pub M-pos : 0 < M
  pub J-le : J ≤ 4
  pub M-le : M ≤ 4
  pub eight : M * J ≡ 8
  -- the runs of a partition's cells
  pub T : ℕ
  pub turns : M * T ≡ 36864
  pub perm : Permutes J v v
  -- the partitions are taken in order
  pub plain : (s : ℕ) → s < J → get_or v s 0 ≡ s

perm2 : Permutes 2 v2 v2
unfolding v2 undone all
perm2 = permutes 2 v2 v2 tt tt

pub perm4 : Permutes 4 v4 v4
unfolding v4 undone all
perm4 = permutes 4 v4 v4 tt tt

plain2 : (s : ℕ) → s < 2 → get_or v2 s 0 ≡ s
unfolding v2
plain2 zero h = refl
plain2 (suc zero) h = refl
plain2 (suc (suc s)) h = omega arith

pub plain4 : (s : ℕ) → s < 4 → get_or v4 s 0 ≡ s
unfolding v4
plain4 zero h = refl
plain4 (suc zero) h = refl
plain4 (suc (suc zero)) h = refl
plain4 (suc (suc (suc zero))) h = refl
plain4 (suc (suc (suc (suc s)))) h = omega arith

pub kind-is : (kind : ℕ) → kind < 2 → Kind (partitions kind) (runs kind) (order kind)
unfolding partitions runs order
kind-is zero h =
    record {
      J-pos = omega arith;
      M-pos = omega arith;
      J-le = omega arith;
      M-le = omega arith;
      eight = refl;
      T = 9216;
      turns = refl;
      perm = perm2;
      plain = plain2;
    }
kind-is (suc zero) h =
    record {
      J-pos = omega arith;
      M-pos = omega arith;
      J-le = omega arith;
      M-le = omega arith;
      eight = refl;
      T = 18432;
      turns = refl;
      perm = perm4;
      plain = plain4;
    }
kind-is (suc (suc kind)) h = absurd (omega arith)

-- the internal matrix takes the coded bits of two L1 frames
pub coded_bytes-is : (kind : ℕ) → kind < 2 → 16 * coded_bytes kind ≡ 36864 * partitions kind
unfolding partitions coded_bytes
coded_bytes-is zero h = refl
coded_bytes-is (suc zero) h = refl
coded_bytes-is (suc (suc kind)) h = omega arith

pub coded_bytes-le : (kind : ℕ) → kind < 2 → coded_bytes kind ≤ 9216
unfolding coded_bytes
coded_bytes-le zero h = omega arith
coded_bytes-le (suc zero) h = omega arith
coded_bytes-le (suc (suc kind)) h = omega arith
