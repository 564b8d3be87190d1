-- Each cell of the matrices PX2 of P1' is written once, in MP5 (Table 10-17, M = 2) as in MP6 (Table 10-19, J = 8 and M = 1): Interleaver I's law at either
-- row, for each frame in turn. Assumes nothing.
use mathlib.Core.Path.{◌≡◌, refl, sym, ◌∙◌}
use Prim.Native.Nat.{ℕ, zero, suc, ◌*◌, ◌<◌}
use native.Mathlib.Omega.{arith}
use Rattle.bits.specs.Bits.{written}
use Rattle.bits.specs.Once.{EachOnce, Below}
use Rattle.bits.specs.Tests.{all}
use Rattle.bits.proofs.Once.{new, read-written}
use Rattle.bits.proofs.Written.{written-lt, written-zero}
use Rattle.interleaving.specs.Matrix.{position_of}
use Rattle.interleaving.specs.EquationsI as I
use Rattle.interleaving.specs.PX.{v4}
use Rattle.interleaving.specs.PX2.{partitions, runs, v8, order, frame_bits, place, matrix}
use Rattle.interleaving.proofs.Permutation.{Permutes, permutes, undone}
use Rattle.interleaving.proofs.Fills.{source_by}
use Rattle.interleaving.proofs.FillsI as One
use Rattle.interleaving.proofs.FillsIM as More
use Rattle.interleaving.proofs.OnceI.{each-once-I, each-once-I-runs}
use Rattle.interleaving.proofs.PXKinds.{perm4}
use Rattle.interleaving.proofs.InTurn.{in_turn, in-turn}

pub perm8 : Permutes 8 v8 v8
unfolding v8 undone all
perm8 = permutes 8 v8 v8 tt tt

-- the bit of a cell of one matrix
unfoldable pub source_in : (row c : ℕ) → ℕ
source_in zero c = source_by (More.assignment 4 36 2 v4 v4) 4 (position_of 4 36 c)
source_in (suc row) c = source_by (One.assignment 8 2 36 v8 v8) 4 (position_of 8 36 c)

pub one-each-once : (row : ℕ) → row < 2
    → EachOnce (Below (frame_bits row)) (frame_bits row) (I.place (partitions row) 2 36 (runs row) (order row)) (source_in row)
unfolding partitions runs order frame_bits source_in
one-each-once zero h = each-once-I-runs 4 4 8 v4 v4 (omega arith) refl perm4 2 (omega arith) (omega arith)
one-each-once (suc zero) h = each-once-I 8 4 8 v8 v8 (omega arith) refl perm8 2 (omega arith)
one-each-once (suc (suc row)) h = absurd (omega arith)

pub bits_pos : (row : ℕ) → row < 2 → 0 < frame_bits row
unfolding frame_bits
bits_pos zero h = omega arith
bits_pos (suc zero) h = omega arith
bits_pos (suc (suc row)) h = absurd (omega arith)

-- the bit of a cell of the eight
unfoldable pub source : (row c : ℕ) → ℕ
source row c = in_turn (frame_bits row) (source_in row) c

pub px2-each-once : (row : ℕ) → row < 2 → EachOnce (Below (8 * frame_bits row)) (8 * frame_bits row) (place row) (source row)
unfolding place source
px2-each-once row h = in-turn (frame_bits row) 8 (bits_pos row h) _ _ (one-each-once row h)

-- each coded bit stands at its cell
pub stands : (row : ℕ) → row < 2 → (coded : ℕ → ℕ) (i : ℕ) → i < 8 * frame_bits row → matrix row coded (place row i) ≡ coded i
unfolding matrix
stands row h coded i l = read-written (8 * frame_bits row) (place row) (source row) (px2-each-once row h) (λ c. 0) coded i l

-- the matrices, whatever the buffer held before
pub filled : (row : ℕ) → row < 2 → (coded m : ℕ → ℕ) (c : ℕ) → c < 8 * frame_bits row
    → written (place row) coded (8 * frame_bits row) m c ≡ matrix row coded c
unfolding matrix
filled row h coded m c l =
    let o = px2-each-once row h in
    let n : ℕ = 8 * frame_bits row in
    new n (place row) (source row) o coded m n (omega arith) c l (o.back c l)
    ∙ sym (new n (place row) (source row) o coded (λ c. 0) n (omega arith) c l (o.back c l))

pub matrix-lt : (row : ℕ) (coded : ℕ → ℕ) → ((i : ℕ) → coded i < 2) → (c : ℕ) → matrix row coded c < 2
unfolding matrix
matrix-lt row coded h c = written-lt (place row) coded (8 * frame_bits row) (λ c. 0) h (λ c. omega arith) c

-- coded zeros leave the matrices zero
pub matrix-zero : (row : ℕ) (coded : ℕ → ℕ) → ((i : ℕ) → coded i ≡ 0) → (c : ℕ) → matrix row coded c ≡ 0
unfolding matrix
matrix-zero row coded h c = written-zero (place row) coded (8 * frame_bits row) h c
