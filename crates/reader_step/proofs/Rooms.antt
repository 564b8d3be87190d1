-- The frame buffers that the code lends, in every mode. Assumes nothing.
use mathlib.Core.Path.{◌≡◌}
use mathlib.Core.List.{List}
use Prim.Native.Nat.{ℕ, ◌+◌, ◌≤◌}
use native.Mathlib.Omega.{arith}
use lib.ListN.{get_or, length, length-replicate, take, replicate}
use lib.Seq.{length-take-le}
use Rattle.runs.specs.declared.Extended.TheVariants.{P3, P4}
use Rattle.runs.specs.MainChannels.{main_of, p1_len, p2_len}
use Rattle.runs.specs.Lengths.{kind_of, frame_len, reader_len, pids_len}
use Rattle.calls.specs.Called.{frames}
use Rattle.modes.specs.Sizes.{wanted}
use Rattle.layout.proofs.Cut.{entry-is}
use Rattle.layout.proofs.Zeros.{zeros_of}
use Rattle.frames.specs.Read.{blank}
use Rattle.frames.proofs.Blank.{room-p1, room-p2, room-p3, room-p4}

module _ (mode : ℕ) (want : List ℕ) (lengths : want ≡ wanted mode (reader_len (kind_of mode P3)) (reader_len (kind_of mode P4))) where
  is : (k : ℕ) → get_or want k 0 ≡ get_or (wanted mode (reader_len (kind_of mode P3)) (reader_len (kind_of mode P4))) k 0
  is = entry-is mode _ _ want lengths

  pub blank-is : frames 0 (take (get_or want 0 0) (replicate 18272 0)) (replicate 160 0) (take (get_or want 2 0) (replicate 13664 0))
      (take (get_or want 3 0) (replicate 4608 0)) (take (get_or want 4 0) (replicate 4608 0)) ≡ blank mode
  unfolding blank pids_len
  blank-is =
      let q1 = zeros_of (get_or want 0 0) 18272 (p1_len (main_of mode)) (is 0) (room-p1 mode want lengths) in
      let q2 = zeros_of (get_or want 2 0) 13664 (p2_len (main_of mode)) (is 2) (room-p2 mode want lengths) in
      let q3 = zeros_of (get_or want 3 0) 4608 (frame_len (kind_of mode P3)) (is 3) (room-p3 mode want lengths) in
      let q4 = zeros_of (get_or want 4 0) 4608 (frame_len (kind_of mode P4)) (is 4) (room-p4 mode want lengths) in
      λ i. frames 0 (q1 i) (replicate 160 0) (q2 i) (q3 i) (q4 i)

  -- a part of a buffer that has room for it
  part : (k n : ℕ) → k ≤ n → length (take k (replicate {A = ℕ} n 0)) ≡ k
  part k n h = length-take-le k (replicate {A = ℕ} n 0) (omega (arith, length-replicate {A = ℕ} n 0))

  -- and what is written has room
  pub rooms-fit : (n : ℕ) → 41313 ≤ n
      → (251 ≤ n)
      × (1 + length (take (get_or want 0 0) (replicate {A = ℕ} 18272 0)) + length {A = ℕ} (replicate 160 0)
      + length (take (get_or want 2 0) (replicate {A = ℕ} 13664 0)) + length (take (get_or want 3 0) (replicate {A = ℕ} 4608 0)) + length (take (get_or want 4 0) (replicate {A = ℕ} 4608 0)) ≤ n)
  rooms-fit n h =
      let h1 = room-p1 mode want lengths in
      let h2 = room-p2 mode want lengths in
      let h3 = room-p3 mode want lengths in
      let h4 = room-p4 mode want lengths in (
        omega arith,
        omega (
          arith,
          h1,
          h2,
          h3,
          h4,
          length-replicate {A = ℕ} 160 0,
          part (get_or want 0 0) 18272 h1,
          part (get_or want 2 0) 13664 h2,
          part (get_or want 3 0) 4608 h3,
          part (get_or want 4 0) 4608 h4,
        ),
      )
