-- The frame buffers of the code's own, which hold zeros, are of the lengths in the definition. Assumes nothing.
use Prim.Native.Nat.{ℕ, ◌≤◌}
use mathlib.Core.Path.{◌≡◌, ap, ◌∙◌}
use mathlib.Core.List.{List}
use native.Mathlib.Omega.{arith}
use lib.ListN.{get_or, take, replicate}
use Rattle.runs.specs.declared.Extended.TheVariants.{P3, P4}
use Rattle.runs.specs.declared.State.{State}
use Rattle.runs.specs.MainChannels.{main_of, p1_len, p2_len}
use Rattle.runs.specs.Lengths.{kind_of, frame_len, reader_len, pids_len}
use Rattle.runs.specs.Lent.{Frames, Memory, Result}
use Rattle.runs.specs.Reading.{read_step}
use Rattle.runs.proofs.Bounds.{frame-le, p2-le}
use Rattle.calls.specs.Called.{frames, read_gave}
use Rattle.modes.specs.Sizes.{wanted}
use Rattle.calls.specs.declared.states.ReadOutcome.{ReadOutcome}
use Rattle.layout.specs.Layout.{signal_in}
use Rattle.layout.proofs.Cut.{entry-is, main-small}
use Rattle.layout.proofs.Zeros.{zeros_of}
use Rattle.frames.specs.Read.{blank, handed, read_frame}

module _ (mode : ℕ) (want : List ℕ) (lengths : want ≡ wanted mode (reader_len (kind_of mode P3)) (reader_len (kind_of mode P4))) where
  is : (k : ℕ) → get_or want k 0 ≡ get_or (wanted mode (reader_len (kind_of mode P3)) (reader_len (kind_of mode P4))) k 0
  is = entry-is mode _ _ want lengths

  -- each has room
  pub room-p1 : get_or want 0 0 ≤ 18272
  room-p1 = let e : get_or want 0 0 ≡ p1_len (main_of mode) = is 0 in omega (arith, main-small (main_of mode))

  pub room-p2 : get_or want 2 0 ≤ 13664
  room-p2 = let e : get_or want 2 0 ≡ p2_len (main_of mode) = is 2 in omega (arith, p2-le (main_of mode))

  pub room-p3 : get_or want 3 0 ≤ 4608
  room-p3 = let e : get_or want 3 0 ≡ frame_len (kind_of mode P3) = is 3 in omega (arith, frame-le (kind_of mode P3))

  pub room-p4 : get_or want 4 0 ≤ 4608
  room-p4 = let e : get_or want 4 0 ≡ frame_len (kind_of mode P4) = is 4 in omega (arith, frame-le (kind_of mode P4))

  -- the frames that are lent to the reader
  abbrev own : Frames
  own =
      frames 0 (take (get_or want 0 0) (replicate 18272 0)) (replicate 160 0) (take (get_or want 2 0) (replicate 13664 0))
      (take (get_or want 3 0) (replicate 4608 0)) (take (get_or want 4 0) (replicate 4608 0))

  own_is : own ≡ blank mode
  unfolding blank pids_len
  own_is =
      let q1 = zeros_of (get_or want 0 0) 18272 (p1_len (main_of mode)) (is 0) room-p1 in
      let q2 = zeros_of (get_or want 2 0) 13664 (p2_len (main_of mode)) (is 2) room-p2 in
      let q3 = zeros_of (get_or want 3 0) 4608 (frame_len (kind_of mode P3)) (is 3) room-p3 in
      let q4 = zeros_of (get_or want 4 0) 4608 (frame_len (kind_of mode P4)) (is 4) room-p4 in
      λ i. frames 0 (q1 i) (replicate 160 0) (q2 i) (q3 i) (q4 i)

  -- what a reading gave that was lent these
  pub read_of : (s : State) (m m' : Memory) (bytes : List ℕ) (r : ReadOutcome) (f : Frames)
      → read_gave r m' (handed f (signal_in mode bytes)) ≡ read_step s m (handed own (signal_in mode bytes))
      → (r.answer ≡ (read_frame mode s m bytes).answer) × (r.state ≡ (read_frame mode s m bytes).state) × (m' ≡ (read_frame mode s m bytes).memory)
      × (f.reserved ≡ (read_frame mode s m bytes).lent.frames.reserved)
  unfolding read_frame
  read_of s m m' bytes r f e =
      let q : read_gave r m' (handed f (signal_in mode bytes)) ≡ read_step s m (handed (blank mode) (signal_in mode bytes))
      = e ∙ ap (λ (x : Frames). read_step s m (handed x (signal_in mode bytes))) own_is in
      (ap (λ (g : Result). g.answer) q, ap (λ (g : Result). g.state) q, ap (λ (g : Result). g.memory) q, ap (λ (g : Result). g.lent.frames.reserved) q)
