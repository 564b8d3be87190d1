-- S-11 and S-12 upon what a sending wrote: the cells of one PIDS frame, copied from PM of a sender's run, and the frame that was sent.
use Rattle.std.specs.Prelude.{◌≡◌, ◌⊎◌, List, ℕ, ◌+◌, ◌*◌, ◌<◌, ◌≤◌, length, get_or, take, drop}
use Rattle.bits.specs.Bits.{bit_at}
use Rattle.coding.specs.declared.Rate.TheVariants.{TwoFifths}
use Rattle.coding.specs.Channel.{channel}
use Rattle.runs.specs.declared.Answer.{Answer}
use Rattle.runs.specs.declared.Answer.TheVariants.{Success, SeveralFit}
use Rattle.runs.specs.Chain.{pids_cells}
use Rattle.runs.specs.Runs.{SenderRun, count, frame_at, matrices_at}
use Rattle.trellis.specs.Cells.{Frame, scrambled_of, coded_bits, apart}
use Rattle.trellis.specs.Paths.{start}
use Rattle.decoding.specs.declared.Decoded.{Decoded}
use Rattle.decoding.specs.Outcomes.{Answered}
use Rattle.restoring.specs.Restored.{Fits, Restored}

-- frame f of the sixteen PIDS frames of an L1 frame, of ten bytes each
abbrev pub frame_in : List ℕ → ℕ → List ℕ
frame_in pids f = take 10 (drop (10 * f) pids)

-- what stands in PM for coded bit n of PIDS frame f, at its position (10.4.1)
abbrev pub cell_in : List ℕ → ℕ → ℕ → ℕ
cell_in pm f n = pids_cells pm (200 * f + n)

-- the cells of PIDS frame f, copied from PM in coded order: each that was read, a byte below 2, is the bit that stands there
pub record Copied (pm : List ℕ) (f : ℕ) (cells : List ℕ) : Type 0 where
  pub long : length cells ≡ 200
  pub each : (n : ℕ) → n < 200 → get_or cells n 0 < 2 → get_or cells n 0 ≡ cell_in pm f n

-- no cell is unread
abbrev pub AllRead : List ℕ → Type 0
AllRead cells = (n : ℕ) → n < 200 → get_or cells n 0 < 2

-- how many of the cells that were read are mis-copied: they are not the bit that stands in PM
abbrev pub mis_copied : List ℕ → ℕ → List ℕ → ℕ
mis_copied pm f cells = apart cells (cell_in pm f) 200

-- PIDS frame f in the matrix pm of an L1 frame, where `sent` was sent
pub record PidsSent (pm : List ℕ) (f : ℕ) (sent : List ℕ) : Type 0 where
  pub shape : Frame sent
  -- its cells in PM are the coded bits of the frame sent, as S-11 and S-12 count them
  pub coding : (n : ℕ) → n < 200 → cell_in pm f n ≡ coded_bits (scrambled_of sent) n
  -- S-11: whichever cells were not read, the frame sent fits; it is restored, or several fit: never 14, and never another frame
  pub fits : (cells : List ℕ) → Copied pm f cells → Fits cells sent
  pub restored : (cells before after : List ℕ) (r : Answer) → Copied pm f cells → length before ≡ 10 → Restored cells before after r
      → ((r ≡ Success) × (after ≡ sent)) ⊎ ((r ≡ SeveralFit) × (after ≡ before))
  -- and where every cell was read it is restored
  pub restored-whole : (cells before after : List ℕ) (r : Answer) → Copied pm f cells → AllRead cells → length before ≡ 10 → Restored cells before after r
      → (r ≡ Success) × (after ≡ sent)
  -- S-12: where every cell was read, and none mis-copied, the frame sent is found, at distance 0, with any budget that tries its start
  pub nearest : (cells before after : List ℕ) (budget : ℕ) (r : Decoded) → Copied pm f cells → AllRead cells → length before ≡ 10
      → budget ≤ 64 → start (scrambled_of sent) < budget → Answered cells before after budget r
      → (after ≡ sent) × (r ≡ record { answer = Success; distance = 0; margin = 0 })
  -- and so with budget 64
  pub nearest-of-all : (cells before after : List ℕ) (r : Decoded) → Copied pm f cells → AllRead cells → length before ≡ 10 → Answered cells before after 64 r
      → (after ≡ sent) × (r ≡ record { answer = Success; distance = 0; margin = 0 })
  -- with any cells, of which some may be mis-copied or unread, the answer is no farther than they are many, and the margin
  pub no-farther : (cells before after : List ℕ) (budget : ℕ) (r : Decoded) → Answered cells before after budget r → r.answer ≡ Success
      → r.distance ≤ mis_copied pm f cells + r.margin
  pub no-farther-of-all : (cells before after : List ℕ) (r : Decoded) → Answered cells before after 64 r → r.answer ≡ Success
      → r.distance ≤ mis_copied pm f cells

pub record SentPids : Type 0 where
  -- the PIDS bits that a sending writes to PM are, frame by frame, the coding that S-11 and S-12 are stated over
  pub channel-is : (pids : List ℕ) (f n : ℕ) → n < 200 → channel TwoFifths 80 (bit_at pids) (200 * f + n) ≡ coded_bits (scrambled_of (frame_in pids f)) n
  -- each of the sixteen PIDS frames of each L1 frame of each sender's run
  pub each : (mode : ℕ) (a : SenderRun mode) (t f : ℕ) → t < count mode a → f < 16
      → PidsSent (matrices_at mode a t).pm f (frame_in (frame_at mode a t).pids f)
