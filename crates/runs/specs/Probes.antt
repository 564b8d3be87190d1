-- Document 01, "Probe points": every starred point, as what the definitions give beside what the document says.
use Rattle.std.specs.Prelude.{◌≡◌, cond, List, [], ◌∷◌, ◌++◌, map, ℕ, zero, suc, ◌+◌, ◌*◌, ◌/◌, ◌%◌, eqb, replicate}
use Rattle.bits.specs.Bits.{number}
use Rattle.coding.specs.Coder.{coded, rate25}
use Rattle.interleaving.specs.Matrix.{partition_of, block_of, row_of, column_of}
use Rattle.interleaving.specs.PM.{p1_position, pids_position}
use Rattle.interleaving.specs.EquationsIV as IV
use Rattle.interleaving.specs.PX.{place, v4}
use Rattle.interleaving.specs.Points.{row_column}
use Rattle.control.specs.Control.{assembled, encoded}

abbrev pub Point : Type 0
Point = List ℕ × List ℕ

-- at each point the two are the same
abbrev pub Hold : List Point → Type 0
Hold points = map (λ (p : Point). p.0) points ≡ map (λ (p : Point). p.1) points

-- MP3: entry n of the partition p is written by this step, since each partition in its turn takes two bits
abbrev step_of : ℕ → ℕ → ℕ
step_of n p = 8 * (n / 2) + 2 * p + n % 2

-- counter, partition, block, row and column of the cell that this step writes, where step i has the counter `counter_of i` and writes the cell `place_of i`
abbrev entry : (counter_of place_of : ℕ → ℕ) → ℕ → ℕ → List ℕ
entry counter_of place_of n p =
    let i : ℕ = step_of n p in
    let c : ℕ = place_of i in
    counter_of i ∷ partition_of 4 36 c ∷ block_of 4 36 c ∷ row_of 4 36 c ∷ column_of 4 36 c ∷ []

-- a question for each of the four partitions
abbrev each : (ℕ → Point) → List Point
each point = map point (0 ∷ 1 ∷ 2 ∷ 3 ∷ [])

-- how many of the 200 coded bits of a frame of 80 bits are set, at the rate 2/5
abbrev total : ℕ → (ℕ → ℕ) → ℕ
total zero f = 0
total (suc n) f = total n f + f n

abbrev ones : (ℕ → ℕ) → ℕ
ones s = total 200 (coded rate25 80 s)

-- the frame with a single 1, at k
abbrev single : ℕ → ℕ → ℕ
single k i = cond (eqb i k) 1 0

-- k, k + 2, .. : n of them
abbrev every_second : ℕ → ℕ → List ℕ
every_second k zero = []
every_second k (suc n) = k ∷ every_second (2 + k) n

unfoldable pub points_by : (counter_of place_of : ℕ → ℕ) → List Point
points_by counter_of place_of =
    ((row_column (p1_position 0), 192 ∷ 360 ∷ [])
    ∷ (row_column (p1_position 1), 448 ∷ 72 ∷ [])
    ∷ (row_column (p1_position 20), 224 ∷ 360 ∷ [])
    ∷ (row_column (p1_position 320), 203 ∷ 371 ∷ [])
    ∷ (row_column (p1_position 365439), 71 ∷ 206 ∷ [])
    ∷ (row_column (pids_position 0), 18 ∷ 361 ∷ [])
    ∷ (row_column (pids_position (15 * 200 + 199)), 501 ∷ 208 ∷ [])
    ∷ [])
    ++ each (λ p. (entry counter_of place_of 0 p, 0 ∷ p ∷ 7 * p % 32 ∷ 0 ∷ 0 ∷ []))
    ++ each (λ p. (entry counter_of place_of 4 p, 4 ∷ p ∷ (7 * p + 4) % 32 ∷ 1 ∷ 8 ∷ []))
    ++ each (λ p. (entry counter_of place_of 1152 p, 1152 ∷ p ∷ (7 * p + 1) % 32 ∷ 0 ∷ 0 ∷ []))
    ++ ((ones (λ i. 1) ∷ [], 200 ∷ [])
    ∷ (map (λ k. ones (single k)) (every_second 0 40), replicate 40 14)
    ∷ (map (λ k. ones (single k)) (every_second 1 40), replicate 40 11)
    ∷ (number 32 (assembled 1 0 0 0) ∷ number 32 (encoded 1 0 0 0) ∷ [], 0x64640702 ∷ 0x47B805FC ∷ [])
    ∷ [])

-- the starred points, with Interleaver IV as MP3 has it
abbrev pub points : List Point
points = points_by (IV.pt 4 32 36 2 v4) (place 1)
