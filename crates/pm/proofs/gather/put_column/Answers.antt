-- `pm::gather::put_column` meets its contract: the laws `columns-p1` and `columns-pids`. Assumes nothing.
use mathlib.Core.Path.{ap, ◌∙◌}
use Prim.Native.Nat.{ℕ, ◌≤◌, ◌<◌, ◌+◌, ◌*◌}
use native.Mathlib.Omega.{arith}
use Rattle.bits.specs.Bits.{number, byte_of}
use Rattle.bits.proofs.Numbers.{number_lt}
use Rattle.interleaving.specs.Matrix.{cell_of}
use Rattle.interleaving.specs.TableI.{k_for}
use Rattle.interleaving.specs.PM.{p1_place}
use Rattle.pm.specs.Rows.{placed}
use Rattle.pm.proofs.BackLaws.{columns-p1, columns-pids, column-byte, word_of}
use Rattle.pm.proofs.gather.put_column.Goals as goal

pub returns-then-k-ge1142 : goal.returns-then-k-ge1142
returns-then-k-ge1142 c =
    let a = c.args in
    let pre = c.requires in
    let k : 1142 ≤ k_for a.r (4 * a.x + a.i) = omega (arith, c.k_at-k.ensures.0) in
    λ f b s d. columns-pids pre.2 (omega (arith, pre.3, pre.4)) k d

pub copy_column-requires : goal.copy_column-requires
copy_column-requires c = (c.requires.4, omega arith)

pub returns : goal.returns
returns c =
    let a = c.args in
    let pre = c.requires in
    let k = c.k_at-k.ensures.0 in
    let in_row : 4 * a.x + a.i < 36 = omega (arith, pre.3, pre.4) in
    λ f b s d. columns-p1 pre.2 in_row d
    (rw k at (c.copy_column.ensures (byte_of (λ i. f (p1_place i)))
    (λ j i. number 8 (λ u. f (cell_of 20 36 (placed (8 * j + u) a.r (4 * a.x + i)))))
    (λ j i. number_lt 8 _ (λ u l. b _))
    (λ j h. s.is j h ∙ word_of f a.r a.x j)
    (λ j h. ap (λ (n : ℕ). byte_of (λ i. f (p1_place i)) (40 * n + j)) k ∙ column-byte f a.r (4 * a.x + a.i) j pre.2 in_row h)))
