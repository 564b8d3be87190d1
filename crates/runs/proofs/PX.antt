-- An extended channel in bytes: its frames coded and interleaved upon a packed memory, and the way back from three matrices. Assumes nothing.
use Prim.Native.Nat.{ℕ, zero, suc, ◌+◌, ◌-◌, ◌*◌, ◌/◌, ◌%◌, ◌<◌}
use mathlib.Core.Path.{◌≡◌, refl, sym, ap, ◌∙◌}
use mathlib.Core.Bool.{Bool, true, false, ◌&&◌}
use mathlib.Core.List.{◌++◌}
use native.Mathlib.Nat.{add-zero, zero-add, mod-lt}
use native.Mathlib.Omega.{arith}
use lib.ListN.{length, replicate}
use lib.Dec.{eqb}
use borrow.Author.Tests.{eqb-true}
use Rattle.bits.specs.Bits.{Bytes, bit_at}
use Rattle.bits.proofs.Written.{written-lt, written-mem, written-never}
use Rattle.bits.proofs.Packed.{bit_at_lt, bit_at-packed, length-packed, packed-of}
use Rattle.bits.proofs.Parts.{bit_at-zeros}
use Rattle.coding.specs.declared.Rate.TheVariants.{Half}
use Rattle.coding.specs.Channel.{channel}
use Rattle.coding.proofs.Channel.{channel-bit}
use Rattle.interleaving.specs.PX.{cells, place, after, read, later, unreached, is_fill}
use Rattle.interleaving.specs.FinderPX.{source}
use Rattle.runs.specs.declared.Kind.{Kind}
use Rattle.runs.specs.Lengths.{frame_bits, table_row, frame_len, matrix_len, sender_len}
use Rattle.runs.specs.Chain.{Buffer, coded_of, px_of, mem_of, gathered, frames_of, frame_bad, fill_bad}
use Rattle.interleaving.proofs.Conv.{base, mem_at, out_at, back, fill}
use Rattle.runs.proofs.Rows.{bits_of, decoded, in-half, in_row, inside, matrix-bits, memory-bits, none-bad, three-bits, undo, window}

module _ (k : Kind) where
  -- ---- lengths

  pub memory-length : (half : ℕ) (m a : Buffer) → length (mem_of k half m a) ≡ sender_len k
  unfolding mem_of
  memory-length half m a = length-packed _ _

  pub matrix-length : (half : ℕ) (m a : Buffer) → length (px_of k half m a) ≡ matrix_len k
  unfolding px_of
  matrix-length half m a = length-packed _ _

  after-lt : (half : ℕ) (m a : Buffer) (n c : ℕ) → after (table_row k) half (coded_of k a) (bit_at m) n c < 2
  unfolding after coded_of
  after-lt half m a n c = written-lt _ _ n _ (channel-bit Half (frame_bits k) (bit_at a)) (bit_at_lt m) c

  -- ---- L1 frames in a row, from frame 0 in half t % 2 upon the memory m

  unfoldable pub memories : ℕ → Buffer → (ℕ → Buffer) → ℕ → Buffer
  memories t m A zero = m
  memories t m A (suc i) = mem_of k ((t + i) % 2) (memories t m A i) (A i)

  unfoldable pub matrices : ℕ → Buffer → (ℕ → Buffer) → ℕ → Buffer
  matrices t m A i = px_of k ((t + i) % 2) (memories t m A i) (A i)

  abbrev pub codes : (ℕ → Buffer) → ℕ → ℕ → ℕ
  codes A i = channel Half (frame_bits k) (bit_at (A i))

  memories-are : (t : ℕ) (m : Buffer) (A : ℕ → Buffer) (i c : ℕ) → c < 2 * bits_of k
      → bit_at (memories t m A i) c ≡ mem_at (bits_of k) (place (table_row k)) t (bit_at m) (codes A) i c
  unfolding memories mem_at mem_of after coded_of
  memories-are t m A zero c h = refl
  memories-are t m A (suc i) c h =
      bit_at-packed (sender_len k) _ (λ j _. after-lt ((t + i) % 2) (memories t m A i) (A i) (bits_of k) j) c (omega (arith, memory-bits k))
      ∙ written-mem _ _ (bits_of k) _ _ c (memories-are t m A i c h)

  pub matrices-are : (t : ℕ) (m : Buffer) (A : ℕ → Buffer) (i j : ℕ) → j < bits_of k
      → bit_at (matrices t m A i) j ≡ out_at (bits_of k) (place (table_row k)) t (bit_at m) (codes A) i j
  unfolding matrices out_at px_of read after coded_of
  matrices-are t m A i j h =
      bit_at-packed (matrix_len k) _ (λ n _. after-lt ((t + i) % 2) (memories t m A i) (A i) (suc n) _) j (omega (arith, matrix-bits k))
      ∙ written-mem _ _ (suc j) _ _ _ (memories-are t m A i _ (in-half (bits_of k) (t + i) j h))

  -- the coded bits of L1 frame 0, from three matrices
  gather-is : (t : ℕ) (m : Buffer) (A : ℕ → Buffer) (j : ℕ) → j < bits_of k
      → gathered k (t % 2) (matrices t m A 0 ++ matrices t m A 1 ++ matrices t m A 2) j ≡ codes A 0 j
  unfolding gathered later matrices
  gather-is t m A j h =
      let H : ℕ = bits_of k in
      let w = place (table_row k) in
      let p : ℕ = j + (w (t % 2 * H + j) + cells (table_row k) - (t % 2 * H + j)) % cells (table_row k) in
      let twice : cells (table_row k) ≡ 2 * H = omega arith in
      let (below, found) =
      back H w (source (table_row k)) (inside k) (undo k) t (bit_at m) (codes A) (omega arith) 0 j p h
      (ap (λ (n : ℕ). j + (w (t % 2 * H + j) + n - (t % 2 * H + j)) % n) twice
      ∙ ap (λ (n : ℕ). j + (w (n % 2 * H + j) + 2 * H - (n % 2 * H + j)) % (2 * H)) (sym (add-zero t))) in
      three-bits H (matrix_len k) (matrix-bits k) (matrices t m A) (λ i. matrix-length _ _ _) p below
      ∙ matrices-are t m A (p / H) (p % H) (mod-lt p (omega arith))
      ∙ ap (λ (i : ℕ). out_at H w t (bit_at m) (codes A) i (p % H)) (sym (zero-add (p / H)))
      ∙ found

  window-is : (t : ℕ) (m a b c : Buffer)
      → matrices t m (in_row a b c) 0 ++ matrices t m (in_row a b c) 1 ++ matrices t m (in_row a b c) 2 ≡ window k t m a b c
  unfolding matrices memories in_row window
  window-is t m a b c = λ i. at (zero-on i) (one_on i) (two-on i)
    where
      at : ℕ → ℕ → ℕ → Buffer
      at x y z =
          px_of k (x % 2) m a ++ px_of k (y % 2) (mem_of k (x % 2) m a) b
          ++ px_of k (z % 2) (mem_of k (y % 2) (mem_of k (x % 2) m a) b) c

      zero-on : t + 0 ≡ t
      zero-on = add-zero t

      one_on : t + 1 ≡ suc t
      one_on = omega arith

      two-on : t + 2 ≡ suc (suc t)
      two-on = omega arith

  window-gathers : (t : ℕ) (m a b c : Buffer) (j : ℕ) → j < bits_of k
      → gathered k (t % 2) (window k t m a b c) j ≡ channel Half (frame_bits k) (bit_at a) j
  unfolding in_row
  window-gathers t m a b c j h =
      ap (λ (x : Buffer). gathered k (t % 2) x j) (sym (window-is t m a b c)) ∙ gather-is t m (in_row a b c) j h

  -- ---- the frames of an L1 frame stand in three matrices, upon any memory

  pub frames-back : (t : ℕ) (m a b c : Buffer) → length a ≡ frame_len k → Bytes a → frames_of k (t % 2) (window k t m a b c) ≡ a
  unfolding frames_of
  frames-back t m a b c len bytes =
      sym (packed-of (frame_len k) a _ len bytes
      (λ i h. sym (decoded k (bit_at a) (gathered k (t % 2) (window k t m a b c)) (bit_at_lt a) (window-gathers t m a b c) i h)))

  pub frames-good : (t : ℕ) (m a b c : Buffer) (f : ℕ) → f < 8 → frame_bad k (t % 2) (window k t m a b c) f ≡ false
  unfolding frame_bad
  frames-good t m a b c = none-bad k (bit_at a) (gathered k (t % 2) (window k t m a b c)) (bit_at_lt a) (window-gathers t m a b c)

  -- ---- L1 frames 0 and 1 upon a memory of zeros

  -- a cell that no bit has reached shows 0
  pub fill-zero : (A : ℕ → Buffer) (t c : ℕ) → t < 2 → c < bits_of k → unreached (table_row k) (base (bits_of k) t + c) ≡ true
      → bit_at (matrices 0 (replicate (sender_len k) 0) A t) c ≡ 0
  unfolding unreached
  fill-zero A t c two h e =
      matrices-are 0 (replicate (sender_len k) 0) A t c h
      ∙ fill (bits_of k) (place (table_row k)) (bit_at (replicate (sender_len k) 0)) (codes A) t c two h
      (written-never (place (table_row k)) (suc (base (bits_of k) t + c)) (base (bits_of k) t + c) (eqb-true _ 0 e))
      ∙ bit_at-zeros (sender_len k) (base (bits_of k) t + c)

  fill-clear : (A : ℕ → Buffer) (t c : ℕ) → t < 2 → c < bits_of k
      → unreached (table_row k) (base (bits_of k) t + c) && eqb (bit_at (matrices 0 (replicate (sender_len k) 0) A t) c) 1 ≡ false
  fill-clear A t c two h = go (unreached (table_row k) (base (bits_of k) t + c)) refl
    where
      go : (b : Bool) → unreached (table_row k) (base (bits_of k) t + c) ≡ b
          → b && eqb (bit_at (matrices 0 (replicate (sender_len k) 0) A t) c) 1 ≡ false
      go false e = refl
      go true e = ap (λ (x : ℕ). eqb x 1) (fill-zero A t c two h e)

  pub fill-first : (a : Buffer) (c : ℕ) → c < 8 * matrix_len k → fill_bad k 0 (px_of k 0 (replicate (sender_len k) 0) a) c ≡ false
  unfolding fill_bad is_fill matrices memories
  fill-first a c h = fill-clear (λ i. a) 0 c (omega arith) (omega (arith, matrix-bits k))

  pub fill-second : (a b : Buffer) (c : ℕ) → c < 8 * matrix_len k
      → fill_bad k 1 (px_of k 1 (mem_of k 0 (replicate (sender_len k) 0) a) b) c ≡ false
  unfolding fill_bad is_fill matrices memories in_row
  fill-second a b c h = fill-clear (in_row a b b) 1 c (omega arith) (omega (arith, matrix-bits k))
