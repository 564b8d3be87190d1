-- What the cells of a sender's run show: in PM the coded bit of its L1 frame, in PX1 and PX2 the one that the finder names, or the zero fill, and in PX2 of MP5 and MP6 the P1 frames of
-- three L1 frames earlier, or the delay's zeros.
-- Assumes nothing.
use Prim.Native.Nat.{ℕ, zero, suc, ◌+◌, ◌-◌, ◌*◌, ◌/◌, ◌%◌, ◌≤◌, ◌<◌, min}
use mathlib.Core.Path.{◌≡◌, refl, sym, ap, ap₂, ◌∙◌}
use native.Mathlib.Nat.{zero-add, div-lt_iff_lt-mul, mod-eq_of_lt, not-suc-le-zero}
use native.Mathlib.Omega.{arith}
use lib.ListN.{replicate}
use borrow.Author.Tests.{lt-ltb}
use Rattle.bits.specs.Bits.{bit_at, packed}
use Rattle.bits.proofs.Packed.{bit_at-packed}
use Rattle.bits.proofs.Parts.{bit_at-zeros}
use Rattle.scrambling.specs.Scrambler.{scrambled_each}
use Rattle.scrambling.proofs.Frames.{scrambled_each-bit}
use Rattle.coding.specs.declared.Rate.TheVariants.{TwoFifths, Half}
use Rattle.coding.specs.Rates.{coded_length}
use Rattle.coding.specs.Buffers.{Long, coded_each}
use Rattle.coding.specs.Channel.{channel}
use Rattle.coding.proofs.Channel.{length-pos}
use Rattle.coding.proofs.Passes.{channel-each, coded_each-same}
use Rattle.interleaving.specs.PM.{p1_place, pids_place}
use Rattle.interleaving.specs.PX.{coded_bits, later}
use Rattle.interleaving.specs.FinderPX.{earlier, coded_bit}
use Rattle.interleaving.proofs.FoundPX.{bit-lt, earlier-le, stands-later, unreached-when}
use Rattle.interleaving.proofs.Frames.{matrix, coded-bit-back}
use Rattle.interleaving.proofs.Mod.{div-of, mod-of}
use Rattle.runs.specs.declared.Extended.{Extended}
use Rattle.runs.specs.declared.Kind.{Kind}
use Rattle.runs.specs.declared.Main.{Main}
use Rattle.runs.specs.declared.Main.TheVariants.{Plain, Mp5, Mp6}
use Rattle.runs.specs.MainChannels.{main_of, p1_bits, p2_bits, p1'_bits, p1_len, p1'_len, delay_frames}
use Rattle.runs.specs.Lengths.{kind_of, table_row, sender_len}
use Rattle.runs.specs.Chain.{Buffer, p1_coded, p2_cells, coded_of}
use Rattle.runs.specs.Paths.{p1'_cells, p1'_of, scrambled_of}
use Rattle.runs.specs.Lent.{Frames, Matrices, frame_of, matrix_of, memory_of, p1'_in}
use Rattle.runs.specs.Runs.{SenderRun, count, frame_at, matrices_at}
use Rattle.runs.specs.Defined.{memory_before, defined}
use Rattle.runs.proofs.Rows.{bits_of, long}
use Rattle.runs.proofs.PM.{p2_coded, p1-at, p2-at, pids-at}
use Rattle.runs.proofs.PX.{memories, matrices, codes, matrices-are, fill-zero}
use Rattle.runs.proofs.PX2.{p1'-at, p1'-zero}
use Rattle.runs.proofs.Delay.{goes-frame, goes-zero}
use Rattle.runs.proofs.TwoPaths.{delayed-path, s as s-of, s-fits, second_is}
use Rattle.runs.proofs.Sender.{matrices-at}
use Rattle.runs.proofs.Fixed.{matrix_in, matrix-of, memory-of, pm-at, px-at}
use Rattle.runs.proofs.Cases.{each_extended}

-- ---- an extended channel from a fresh start, L1 frame t bringing the frames A t

module _ (k : Kind) (A : ℕ → Buffer) where
  abbrev pub shown : ℕ → Buffer
  shown = matrices k 0 (replicate (sender_len k) 0) A

  module _ (u : table_row k < 2) (t c : ℕ) (l : c < bits_of k) where
    abbrev kind : ℕ
    kind = table_row k

    -- so many L1 frames earlier, the bit of that L1 frame
    abbrev n : ℕ
    n = earlier kind (t % 2) c

    abbrev j : ℕ
    j = coded_bit kind (t % 2) c

    lh : t % 2 < 2
    lh = omega arith

    pub coded_in : n ≤ t → bit_at (shown t) c ≡ coded_of k (A (t - n)) j
    unfolding coded_of
    coded_in h =
        matrices-are k 0 (replicate (sender_len k) 0) A t c l
        ∙ sym (ap₂ (λ (x y : ℕ). matrix kind 0 (bit_at (replicate (sender_len k) 0)) (codes k A) x y) frame cell)
        ∙ (coded-bit-back kind 0 (bit_at (replicate (sender_len k) 0)) (codes k A) u (t - n) j (bit-lt kind (t % 2) c u lh l)).1
      where
        half : (0 + (t - n)) % 2 ≡ (t % 2 + n) % 2
        half = omega arith

        at : later kind ((0 + (t - n)) % 2) j ≡ n * coded_bits kind + c
        at = ap (λ (x : ℕ). later kind x j) half ∙ stands-later kind (t % 2) c u lh l

        frame : t - n + later kind ((0 + (t - n)) % 2) j / coded_bits kind ≡ t
        frame = omega (arith, div-of (coded_bits kind) n c _ at l)

        cell : later kind ((0 + (t - n)) % 2) j % coded_bits kind ≡ c
        cell = mod-of (coded_bits kind) n c _ at l

    pub fill-in : min 2 t < n → bit_at (shown t) c ≡ 0
    fill-in h =
        fill-zero k A t c two l
        (rw (mod-eq_of_lt two) (unreached-when kind t c u two l ∙ lt-ltb t (earlier kind t c) (rw (mod-eq_of_lt two) at below)))
      where
        two : t < 2
        two = omega (arith, earlier-le kind (t % 2) c u lh l)

        below : t < earlier kind (t % 2) c
        below = omega arith

-- ---- scrambled P1 frames, coded for PX2, are the channel's coded bits

scrambled-coded : (n len : ℕ) → Long n → 8 * len ≡ 8 * n → (a : Buffer) (i : ℕ) → i < 8 * coded_length Half n
    → coded_each Half n (bit_at (packed len (scrambled_each n (bit_at a)))) i ≡ channel Half n (bit_at a) i
scrambled-coded n len l e a i h =
    coded_each-same Half n 8 _ (scrambled_each n (bit_at a)) pos
    (λ j b. bit_at-packed len _ (λ m _. scrambled_each-bit n (bit_at a) m) j (omega arith)) i ((div-lt_iff_lt-mul (length-pos Half n l.enough)).1 h)
    ∙ channel-each Half n (bit_at a) i pos
  where
    pos : 0 < n
    pos = omega (arith, l.enough)

second-coded : (k : Main) (a : Buffer) (i : ℕ) → i < 8 * p1'_len k → coded_each Half (p1'_bits k) (bit_at (scrambled_of k a)) i ≡ channel Half (p1'_bits k) (bit_at a) i
unfolding scrambled_of
second-coded Plain a i h = absurd (not-suc-le-zero h)
second-coded Mp5 a i h = scrambled-coded 4608 4608 (long 4608 (omega arith) refl) refl a i h
second-coded Mp6 a i h = scrambled-coded 9216 9216 (long 9216 (omega arith) refl) refl a i h

-- ---- the matrices of a run

module _ (mode : ℕ) (F : ℕ → Frames) (e : Extended) where
  pub memory-in : (t : ℕ) → memory_of (memory_before mode F t) e ≡ memories (kind_of mode e) 0 (replicate (sender_len (kind_of mode e)) 0) (λ i. frame_of (F i) e) t
  unfolding memory_before memories
  memory-in zero = each_extended (λ e. memory_of (memory_before mode F 0) e ≡ memories (kind_of mode e) 0 (replicate (sender_len (kind_of mode e)) 0) (λ i. frame_of (F i) e) 0) refl refl e
  memory-in (suc t) = memory-of mode (t % 2) (memory_before mode F t) (F t) e ∙ rw (zero-add t, memory-in t)

  matrix-in : (t : ℕ) → matrix_in mode F e t ≡ shown (kind_of mode e) (λ i. frame_of (F i) e) t
  unfolding matrix_in defined matrices
  matrix-in t = matrix-of mode (t % 2) (memory_before mode F t) (F t) e ∙ rw (zero-add t, memory-in t)

module _ (mode : ℕ) (a : SenderRun mode) (t : ℕ) (h : t < count mode a) where
  pub p1-shown : (i : ℕ) → i < p1_coded (main_of mode)
      → bit_at (matrices_at mode a t).pm (p1_place i) ≡ channel TwoFifths (p1_bits (main_of mode)) (bit_at (frame_at mode a t).p1) i
  p1-shown i l = ap (λ (x : Buffer). bit_at x (p1_place i)) (pm-at mode a t h) ∙ p1-at (main_of mode) _ _ _ i l

  pub p2-shown : (i : ℕ) → i < p2_coded (main_of mode)
      → p2_cells (main_of mode) (matrices_at mode a t).pm i ≡ channel TwoFifths (p2_bits (main_of mode)) (bit_at (frame_at mode a t).p2) i
  p2-shown i l = ap (λ (x : Buffer). p2_cells (main_of mode) x i) (pm-at mode a t h) ∙ p2-at (main_of mode) _ _ _ i l

  pub pids-shown : (i : ℕ) → i < 3200 → bit_at (matrices_at mode a t).pm (pids_place i) ≡ channel TwoFifths 80 (bit_at (frame_at mode a t).pids) i
  pids-shown i l = ap (λ (x : Buffer). bit_at x (pids_place i)) (pm-at mode a t h) ∙ pids-at (main_of mode) _ _ _ i l

  module _ (e : Extended) (u : table_row (kind_of mode e) < 2) (c : ℕ) (l : c < bits_of (kind_of mode e)) where
    cell-is : bit_at (matrix_of mode (matrices_at mode a t) e) c ≡ bit_at (shown (kind_of mode e) (λ i. frame_of (frame_at mode a i) e) t) c
    cell-is = ap (λ (x : Buffer). bit_at x c) (px-at mode a e t h ∙ matrix-in mode (frame_at mode a) e t)

    -- the coded bit that the finder names, where it is of the run, and a 0 where it is from before the start
    pub coded-shown : earlier (table_row (kind_of mode e)) (t % 2) c ≤ t
        → bit_at (matrix_of mode (matrices_at mode a t) e) c
        ≡ coded_of (kind_of mode e) (frame_of (frame_at mode a (t - earlier (table_row (kind_of mode e)) (t % 2) c)) e) (coded_bit (table_row (kind_of mode e)) (t % 2) c)
    coded-shown n = cell-is ∙ coded_in (kind_of mode e) (λ i. frame_of (frame_at mode a i) e) u t c l n

    pub fill-shown : min 2 t < earlier (table_row (kind_of mode e)) (t % 2) c → bit_at (matrix_of mode (matrices_at mode a t) e) c ≡ 0
    fill-shown n = cell-is ∙ fill-in (kind_of mode e) (λ i. frame_of (frame_at mode a i) e) u t c l n

  -- P1' in PX2: the coded bits of the P1 frames of the L1 frame so much earlier, and zeros before
  path-is : p1'_in mode (matrices_at mode a t) ≡ p1'_of (main_of mode) (delayed-path mode (frame_at mode a) t)
  path-is = ap (λ (x : Matrices). p1'_in mode x) (matrices-at mode a t h) ∙ second_is mode (frame_at mode a) t

  pub p1'-shown : (s : ℕ) → t ≡ s + delay_frames (main_of mode) → (i : ℕ) → i < 8 * p1'_len (main_of mode)
      → p1'_cells (main_of mode) (p1'_in mode (matrices_at mode a t)) i ≡ channel Half (p1'_bits (main_of mode)) (bit_at (frame_at mode a s).p1) i
  unfolding s-of
  p1'-shown s e i l =
      ap (λ (x : Buffer). p1'_cells (main_of mode) x i)
      (path-is ∙ ap (λ (u : ℕ). p1'_of (main_of mode) (delayed-path mode (frame_at mode a) u)) e
      ∙ ap (p1'_of (main_of mode)) (goes-frame (main_of mode) (s-of mode (frame_at mode a)) (s-fits mode (frame_at mode a)) s))
      ∙ p1'-at (main_of mode) _ i l
      ∙ second-coded (main_of mode) (frame_at mode a s).p1 i l

  pub delay-zeros-shown : t < delay_frames (main_of mode) → (c : ℕ) → c < 8 * p1'_len (main_of mode) → bit_at (p1'_in mode (matrices_at mode a t)) c ≡ 0
  delay-zeros-shown n c l =
      ap (λ (x : Buffer). bit_at x c) path-is
      ∙ p1'-zero (main_of mode) _
      (λ i. ap (λ (x : Buffer). bit_at x i) (goes-zero (main_of mode) (s-of mode (frame_at mode a)) (s-fits mode (frame_at mode a)) t n) ∙ bit_at-zeros (p1_len (main_of mode)) i)
      c l
