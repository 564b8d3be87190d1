-- For the code alone: the buffers of a channel, on the way back.
use Rattle.std.specs.Prelude.{◌≡◌, Bool, cond, not, ◌&&◌, List, ℕ, ◌+◌, ◌<◌, eqb, ltb, length}
use Rattle.bits.specs.Bits.{beside, bit_at}
use Rattle.runs.specs.declared.Kind.{Kind}
use Rattle.runs.specs.declared.Main.{Main}
use Rattle.runs.specs.declared.Main.TheVariants.{Plain, Mp5, Mp6}
use Rattle.runs.specs.MainChannels.{delay_frames, p1_frames}
use Rattle.runs.specs.Lengths.{frame_len, matrix_len, reader_len, table_row}
use Rattle.runs.specs.Chain.{p1_bad, p2_bad}
use Rattle.runs.specs.Paths.{p1'_bad}

-- the eight frames of a channel that a mode uses, and room for the last three matrices, for the coded bits, and for the frames scrambled
pub record Room (kind : Kind) (three coded scrambled frames : List ℕ) : Type 0 where
  pub used : table_row kind < 2
  pub matrices : length three ≡ reader_len kind
  pub long : length coded ≡ matrix_len kind
  pub between : length scrambled ≡ frame_len kind
  pub plain : length frames ≡ frame_len kind

-- the bytes of a P1 frame, and of the coded bits of P1
abbrev pub p1_bytes : Main → ℕ
p1_bytes Plain = 18272
p1_bytes Mp5 = 576
p1_bytes Mp6 = 1152

abbrev pub coded_bytes : Main → ℕ
coded_bytes Plain = 45680
coded_bytes Mp5 = 11520
coded_bytes Mp6 = 23040

-- the lowest bad place of two rows, from the lowest of each
abbrev pub past : (n r rest : ℕ) → ℕ
past n r rest = cond (ltb r n) r (n + rest)

-- the bad P1 frames in PM, and then P2
unfoldable pub pm_bad : Main → List ℕ → ℕ → Bool
pm_bad k pm = beside (p1_frames k) (p1_bad k pm) (p2_bad k pm)

-- the P1 frames whose second path has come, and is none or disagrees
unfoldable pub late_bad : Main → ℕ → List ℕ → List ℕ → ℕ → Bool
late_bad k age x due f = not (ltb age (delay_frames k)) && p1'_bad k x due f

-- a cell is 1
unfoldable pub is_one : List ℕ → ℕ → Bool
is_one x c = eqb (bit_at x c) 1
