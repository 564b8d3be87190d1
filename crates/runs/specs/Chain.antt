-- The matrices of an L1 frame from its transfer frames, and the frames from the matrices. A channel's coded bits are written to their cells.
use Rattle.std.specs.Prelude.{ℕ, ◌+◌, ◌*◌, Bool, ◌&&◌, List, ltb}
use Rattle.bits.specs.Bits.{bit_at, beside, packed}
use Rattle.coding.specs.declared.Rate.TheVariants.{TwoFifths, Half}
use Rattle.coding.specs.Rates.{coded_length}
use Rattle.coding.specs.Channel.{channel, unchannel, no_frame}
use Rattle.coding.specs.Buffers.{uncoded_each}
use Rattle.interleaving.specs.declared.Position.{Position}
use Rattle.interleaving.specs.Matrix.{cell_of}
use Rattle.interleaving.specs.PM.{p1_position, pids_position, matrix}
use Rattle.interleaving.specs.PX.{coded_bits, after, read, later, is_fill}
use Rattle.runs.specs.declared.Kind.{Kind}
use Rattle.runs.specs.declared.Main.{Main}
use Rattle.runs.specs.MainChannels.{p1_frames, p1_bits, p2_bits, p1_len, p2_len}
use Rattle.runs.specs.Lengths.{frame_bits, table_row, frame_len, matrix_len, sender_len, pids_len, pm_len}

abbrev pub Buffer : Type 0
Buffer = List ℕ

-- ---- 10.4.1, PM: the P1 frames and the P2 frame, one after the other, and sixteen PIDS frames of 80 bits, at the rate 2/5

-- the coded bits of P1
abbrev pub p1_coded : Main → ℕ
p1_coded k = p1_frames k * coded_length TwoFifths (p1_bits k)

-- Figure 10-5: the vector U
unfoldable pub multiplexed : Main → Buffer → Buffer → ℕ → ℕ
multiplexed k p1 p2 = beside (p1_coded k) (channel TwoFifths (p1_bits k) (bit_at p1)) (channel TwoFifths (p2_bits k) (bit_at p2))

unfoldable pub pm_of : Main → Buffer → Buffer → Buffer → Buffer
pm_of k p1 p2 pids = packed pm_len (matrix (multiplexed k p1 p2) (channel TwoFifths 80 (bit_at pids)))

-- back: the bit of PM at a position, and each coded bit, read at its position
abbrev pub bit_in : Buffer → Position → ℕ
bit_in pm at = bit_at pm (cell_of 20 36 at)

abbrev pub p1_cells : Buffer → ℕ → ℕ
p1_cells pm i = bit_in pm (p1_position i)

abbrev pub p2_cells : Main → Buffer → ℕ → ℕ
p2_cells k pm i = bit_in pm (p1_position (p1_coded k + i))

abbrev pub pids_cells : Buffer → ℕ → ℕ
pids_cells pm i = bit_in pm (pids_position i)

-- the P1 frames, still scrambled
unfoldable pub p1_of : Main → Buffer → Buffer
p1_of k pm = packed (p1_len k) (uncoded_each TwoFifths (p1_bits k) (p1_cells pm))

unfoldable pub p2_of : Main → Buffer → Buffer
p2_of k pm = packed (p2_len k) (unchannel TwoFifths (p2_bits k) (p2_cells k pm))

unfoldable pub pids_of : Buffer → Buffer
pids_of pm = packed pids_len (unchannel TwoFifths 80 (pids_cells pm))

-- the cells of P1 frame f are no coded frame; those of P2 are none; those of PIDS frame f are none
unfoldable pub p1_bad : Main → Buffer → ℕ → Bool
p1_bad k pm f = no_frame TwoFifths (p1_bits k) (p1_cells pm) f

unfoldable pub p2_bad : Main → Buffer → ℕ → Bool
p2_bad k pm f = no_frame TwoFifths (p2_bits k) (p2_cells k pm) f

unfoldable pub pids_bad : Buffer → ℕ → Bool
pids_bad pm f = no_frame TwoFifths 80 (pids_cells pm) f

-- ---- 10.4.2, PX: eight frames of an extended channel, at the rate 1/2, upon the internal matrix m, in half 0 or 1 of it

-- the coded bits of the frames a
unfoldable pub coded_of : Kind → Buffer → ℕ → ℕ
coded_of k a = channel Half (frame_bits k) (bit_at a)

unfoldable pub px_of : Kind → ℕ → Buffer → Buffer → Buffer
px_of k half m a = packed (matrix_len k) (read (table_row k) half (coded_of k a) (bit_at m))

unfoldable pub mem_of : Kind → ℕ → Buffer → Buffer → Buffer
mem_of k half m a = packed (sender_len k) (after (table_row k) half (coded_of k a) (bit_at m) (coded_bits (table_row k)))

-- back, from the matrices x of an L1 frame in that half and of the two after it
unfoldable pub gathered : Kind → ℕ → Buffer → ℕ → ℕ
gathered k half x j = bit_at x (later (table_row k) half j)

unfoldable pub frames_of : Kind → ℕ → Buffer → Buffer
frames_of k half x = packed (frame_len k) (unchannel Half (frame_bits k) (gathered k half x))

-- the cells of frame f of the eight are no coded frame
unfoldable pub frame_bad : Kind → ℕ → Buffer → ℕ → Bool
frame_bad k half x f = no_frame Half (frame_bits k) (gathered k half x) f

-- cell c of the matrix x of an L1 frame of age 0 or 1, which is its half, can show only the zero fill, and is 1
unfoldable pub fill_bad : Kind → ℕ → Buffer → ℕ → Bool
fill_bad k age x c = ltb age 2 && is_fill (table_row k) age (bit_at x) c
