-- S-10: the coded bits that still wait to be sent. 10.2.2.2: each step of the internal matrix writes to its place, and then reads the cell of its own number.
-- What counts as waiting: docs/DECISIONS.md D40.
use Rattle.std.specs.Prelude.{ℕ, ◌+◌, ◌*◌, ◌%◌, ◌≤◌, ◌<◌, ◌≡◌, ◌≢◌}
use Rattle.bits.specs.Bits.{bit_at}
use Rattle.coding.specs.declared.Rate.TheVariants.{Half}
use Rattle.coding.specs.Channel.{channel}
use Rattle.interleaving.specs.PX.{coded_bits, cells, place, later}
use Rattle.runs.specs.declared.Kind.{Kind}
use Rattle.runs.specs.declared.Main.{Main}
use Rattle.runs.specs.declared.Extended.{Extended}
use Rattle.runs.specs.MainChannels.{main_of, p1'_bits, p1'_len, delay_frames}
use Rattle.runs.specs.Lengths.{kind_of, table_row}
use Rattle.runs.specs.Chain.{Buffer, coded_of}
use Rattle.runs.specs.Lent.{Frames, Memory, frame_of, memory_of}

-- the step that comes d steps from now, where the next L1 frame comes in that half
unfoldable pub step_from : (kind half d : ℕ) → ℕ
step_from kind half d = (half * coded_bits kind + d) % cells kind

-- what stands in cell c is still to be read, d steps from now, and no step writes over it first
pub record Waits (kind half c d : ℕ) : Type 0 where
  pub inside : c < cells kind
  pub read : step_from kind half d ≡ c
  pub kept : (s : ℕ) → s ≤ d → place kind (step_from kind half s) ≢ c

-- two memories of an extended channel have equal waiting bits
pub record SameWaiting (k : Kind) (half : ℕ) (m m' : Buffer) : Type 0 where
  pub bits : (c d : ℕ) → Waits (table_row k) half c d → bit_at m c ≡ bit_at m' c

-- two memories of a run have. All of the delay memory waits (9.2): PX2 has still to bring the frames of each of its L1 frames
pub record SameMemory (mode half : ℕ) (m m' : Memory) : Type 0 where
  pub extended : (e : Extended) → SameWaiting (kind_of mode e) half (memory_of m e) (memory_of m' e)
  pub delay : m.delayed ≡ m'.delayed

-- ---- the same by coded bits

-- coded bit j of L1 frame t is not among what n L1 frames have shown: it stands `later` cells after the first one of L1 frame t's matrix
pub record Unsent (kind n t j : ℕ) : Type 0 where
  pub begun : t < n
  pub present : j < coded_bits kind
  pub to-come : n * coded_bits kind ≤ t * coded_bits kind + later kind (t % 2) j

-- n L1 frames have brought L1 frame t's P1 frames in PM and not yet in PX2, where they come again that many L1 frames later
pub record Delayed (k : Main) (n t : ℕ) : Type 0 where
  pub brought : t < n
  pub to-come : n ≤ t + delay_frames k

-- the coded bits that n L1 frames of the frames F, and of G, have not sent are equal
pub record SameUnsent (mode n : ℕ) (F G : ℕ → Frames) : Type 0 where
  pub extended : (e : Extended) (t j : ℕ) → Unsent (table_row (kind_of mode e)) n t j
      → coded_of (kind_of mode e) (frame_of (F t) e) j ≡ coded_of (kind_of mode e) (frame_of (G t) e) j
  pub delay : (t j : ℕ) → Delayed (main_of mode) n t → j < 8 * p1'_len (main_of mode)
      → channel Half (p1'_bits (main_of mode)) (bit_at (F t).p1) j ≡ channel Half (p1'_bits (main_of mode)) (bit_at (G t).p1) j
