-- S-14: modulo 2 sums of what some things have, bit by bit.
use Rattle.std.specs.Prelude.{ℕ, ◌+◌, ◌*◌, ◌/◌, ◌%◌, List, [], ◌∷◌, length}
use Rattle.bits.specs.Bits.{bit_at, packed}
use Rattle.runs.specs.Chain.{Buffer}
use Rattle.runs.specs.Lent.{Frames, Matrices, Memory}

-- the numbers of the things rs added up
abbrev pub total : {R : Type 0} → List R → (R → ℕ) → ℕ
total [] x = 0
total (r ∷ rs) x = x r + total rs x

-- the modulo 2 sum of their buffers: bit n is 1 where an odd number of them have a 1 at n
unfoldable pub sum_of : {R : Type 0} → List R → (R → Buffer) → Buffer
sum_of [] x = []
sum_of (r ∷ rs) x = packed (length (x r)) (λ n. total (r ∷ rs) (λ q. bit_at (x q) n) % 2)

-- of their numbers 0 to 7, by the bits of weight 4, 2 and 1
unfoldable pub sum_number : {R : Type 0} → List R → (R → ℕ) → ℕ
sum_number rs x = 4 * (total rs (λ r. x r / 4 % 2) % 2) + 2 * (total rs (λ r. x r / 2 % 2) % 2) + total rs (λ r. x r % 2) % 2

-- of their reserved numbers and transfer frames
unfoldable pub sum_frames : {R : Type 0} → List R → (R → Frames) → Frames
sum_frames rs f =
    record {
      reserved = sum_number rs (λ r. (f r).reserved);
      p1 = sum_of rs (λ r. (f r).p1);
      pids = sum_of rs (λ r. (f r).pids);
      p2 = sum_of rs (λ r. (f r).p2);
      p3 = sum_of rs (λ r. (f r).p3);
      p4 = sum_of rs (λ r. (f r).p4);
    }

-- of their matrices
unfoldable pub sum_matrices : {R : Type 0} → List R → (R → Matrices) → Matrices
sum_matrices rs x =
    record {
      pm = sum_of rs (λ r. (x r).pm);
      px1 = sum_of rs (λ r. (x r).px1);
      px2 = sum_of rs (λ r. (x r).px2);
    }

-- of their memories: the internal matrices of P3 and P4, and the delay memory
unfoldable pub sum_memory : {R : Type 0} → List R → (R → Memory) → Memory
sum_memory rs m =
    record {
      for3 = sum_of rs (λ r. (m r).for3);
      for4 = sum_of rs (λ r. (m r).for4);
      delayed = sum_of rs (λ r. (m r).delayed);
    }
