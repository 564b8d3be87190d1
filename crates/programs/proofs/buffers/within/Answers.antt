-- `within` meets its contract. Assumes nothing.
use mathlib.Core.Path.{sym}
use Prim.Native.Nat.{ℕ, ◌≤◌}
use mathlib.Core.List.{List}
use native.Mathlib.Omega.{arith}
use lib.ListN.{length}
use lib.Seq.{length-take-le}
use Rattle.io.specs.Counts.{IsPrefixLen}
use Rattle.programs.proofs.buffers.within.Goals as goal

counts : (n : ℕ) (xs : List ℕ) → n ≤ length xs → IsPrefixLen n xs
counts n xs h = (h, sym (length-take-le n xs h))

pub returns-then-wanted-buffer : goal.returns-then-wanted-buffer
returns-then-wanted-buffer c = record { prefix_len = counts _ _ (omega arith); value = omega arith }

pub returns-else-wanted-buffer : goal.returns-else-wanted-buffer
returns-else-wanted-buffer c = record { prefix_len = counts _ _ (omega arith); value = omega arith }
