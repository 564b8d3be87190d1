-- For the code alone: the buffers of the work on a channel.
use Rattle.std.specs.Prelude.{◌≡◌, List, ℕ, ◌+◌, ◌*◌, ◌/◌, ◌%◌, ◌≤◌, ◌<◌, length, replicate}
use Rattle.runs.specs.declared.Kind.{Kind}
use Rattle.runs.specs.Lengths.{frame_len, matrix_len, table_row}
use Rattle.runs.specs.Lent.{or_zeros}

-- the frames of an extended channel, or nothing for zeros (S-5), and room for them scrambled
abbrev pub Meant : (frames scrambled : List ℕ) → Type 0
Meant frames scrambled = length (or_zeros (length scrambled) frames) ≡ length scrambled

-- the eight frames of a channel that a mode uses, or nothing; room for them scrambled, and for their coded bits, which are zeros
pub record Room (kind : Kind) (frames scrambled coded : List ℕ) : Type 0 where
  pub used : table_row kind < 2
  pub plain : length (or_zeros (frame_len kind) frames) ≡ frame_len kind
  pub between : length scrambled ≡ frame_len kind
  pub blank : coded ≡ replicate (matrix_len kind) 0

-- the same where the channel's matrices are lent in place of that room: the frames are scrambled in their first bytes
pub record PxRoom (kind : Kind) (frames px coded : List ℕ) : Type 0 where
  pub used : table_row kind < 2
  pub plain : length (or_zeros (frame_len kind) frames) ≡ frame_len kind
  pub long : length px ≡ matrix_len kind
  pub blank : coded ≡ replicate (matrix_len kind) 0

-- eight P1 frames of n bytes, P2, room for both scrambled, and for their coded bits
pub record Split (n : ℕ) (p1 p2 mixed u : List ℕ) : Type 0 where
  pub few : (12 ≤ n) × (n ≤ 2284) × (n % 2 ≡ 0)
  pub long2 : (12 ≤ length p2) × (length p2 ≤ 18272) × (length p2 % 2 ≡ 0)
  pub plain : length p1 ≡ 8 * n
  pub between : length mixed ≡ 8 * n + length p2
  pub all : length u ≡ 20 * n + length p2 / 2 * 5
