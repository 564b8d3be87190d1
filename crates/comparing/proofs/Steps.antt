-- Memories with equal waiting bits, L1 frame by L1 frame: what they send stays equal, and shows that they are. Assumes nothing.
use Prim.Native.Nat.{ℕ, zero, suc, ◌+◌, ◌%◌, ◌≤◌, ◌<◌}
use mathlib.Core.Path.{◌≡◌, sym, ap, ◌∙◌}
use mathlib.Core.List.{◌++◌}
use native.Mathlib.Nat.{add-suc, add-zero}
use native.Mathlib.Omega.{arith}
use Rattle.bits.specs.Bits.{bit_at}
use Rattle.runs.specs.declared.Extended.{Extended}
use Rattle.runs.specs.declared.Extended.TheVariants.{P3, P4}
use Rattle.runs.specs.declared.Main.{Main}
use Rattle.runs.specs.MainChannels.{main_of, delay_frames}
use Rattle.runs.specs.Lengths.{kind_of}
use Rattle.runs.specs.Chain.{Buffer, px_of, mem_of}
use Rattle.runs.specs.Paths.{scrambled_of, oldest, waiting, p1'_of}
use Rattle.runs.specs.Lent.{Frames, Matrices, Memory, frame_of, matrix_of, memory_of, signal_of, memory_next}
use Rattle.runs.specs.Defined.{memory_before, defined}
use Rattle.runs.proofs.Fixed.{matrix-of, memory-of}
use Rattle.comparing.specs.Waiting.{SameWaiting, SameMemory}
use Rattle.comparing.proofs.Waiting.{mem-same, px-same, shown-same}
use Rattle.comparing.proofs.Delay.{delay-shown}
use Rattle.runs.proofs.Cases.{each_extended}

-- ---- one L1 frame

module _ (mode half : ℕ) (lh : half < 2) (m m' : Memory) (f : Frames) where
  signal-same : SameMemory mode half m m' → signal_of mode half m f ≡ signal_of mode half m' f
  unfolding signal_of
  signal-same w = λ i.
      record {
        matrices = record {
          pm = (signal_of mode half m f).matrices.pm;
          px1 = px-same (kind_of mode P3) half lh m.for3 m'.for3 (w.extended P3) f.p3 i;
          px2 = px-same (kind_of mode P4) half lh m.for4 m'.for4 (w.extended P4) f.p4 i ++ p1'_of k (oldest k (w.delay i) (scrambled_of k f.p1));
        };
        control = (signal_of mode half m f).control;
      }
    where
      k : Main
      k = main_of mode

  next-same : SameMemory mode half m m' → SameMemory mode ((half + 1) % 2) (memory_next mode half m f) (memory_next mode half m' f)
  unfolding memory_next
  next-same w =
      record {
        extended = each_extended _ (mem-same (kind_of mode P3) half lh m.for3 m'.for3 (w.extended P3) f.p3) (mem-same (kind_of mode P4) half lh m.for4 m'.for4 (w.extended P4) f.p4);
        delay = ap (λ (x : Buffer). waiting (main_of mode) x (scrambled_of (main_of mode) f.p1)) w.delay;
      }

  -- two equal matrices of an extended channel
  extended-shown : (g : Frames) → (signal_of mode half m f).matrices ≡ (signal_of mode half m' f).matrices
      → (signal_of mode ((half + 1) % 2) (memory_next mode half m f) g).matrices ≡ (signal_of mode ((half + 1) % 2) (memory_next mode half m' f) g).matrices
      → (e : Extended) → SameWaiting (kind_of mode e) half (memory_of m e) (memory_of m' e)
  extended-shown g p q e =
      shown-same (kind_of mode e) half lh (memory_of m e) (memory_of m' e) (frame_of f e) (frame_of g e)
      (λ j l. ap (λ (x : Buffer). bit_at x j) (sym (now m) ∙ ap (λ (x : Matrices). matrix_of mode x e) p ∙ now m'))
      (λ j l. ap (λ (x : Buffer). bit_at x j) (sym (then m) ∙ ap (λ (x : Matrices). matrix_of mode x e) q ∙ then m'))
    where
      now : (n : Memory) → matrix_of mode (signal_of mode half n f).matrices e ≡ px_of (kind_of mode e) half (memory_of n e) (frame_of f e)
      now n = matrix-of mode half n f e

      then : (n : Memory) → matrix_of mode (signal_of mode ((half + 1) % 2) (memory_next mode half n f) g).matrices e
          ≡ px_of (kind_of mode e) ((half + 1) % 2) (mem_of (kind_of mode e) half (memory_of n e) (frame_of f e)) (frame_of g e)
      then n =
          matrix-of mode ((half + 1) % 2) (memory_next mode half n f) g e
          ∙ ap (λ (x : Buffer). px_of (kind_of mode e) ((half + 1) % 2) x (frame_of g e)) (memory-of mode half n f e)

-- ---- frames that agree from L1 frame n on

module _ (mode : ℕ) (F G : ℕ → Frames) where
  abbrev pub SameAt : ℕ → Type 0
  SameAt t = SameMemory mode (t % 2) (memory_before mode F t) (memory_before mode G t)

  halves : (t : ℕ) → suc t % 2 ≡ (t % 2 + 1) % 2
  halves t = omega arith

  same_next : (t : ℕ) → F t ≡ G t → SameAt t → SameAt (suc t)
  unfolding memory_before
  same_next t e w = rw (halves t, ← e) (next-same mode (t % 2) (omega arith) _ _ (F t) w)

  pub same_sent : (t : ℕ) → F t ≡ G t → SameAt t → defined mode F t ≡ defined mode G t
  unfolding defined
  same_sent t e w = rw (← e) (signal-same mode (t % 2) (omega arith) _ _ (F t) w)

  pub same-on : (n : ℕ) → ((i : ℕ) → F (n + i) ≡ G (n + i)) → SameAt n → (i : ℕ) → SameAt (n + i)
  same-on n agree w zero = rw (add-zero n) w
  same-on n agree w (suc i) = rw (add-suc n i) (same_next (n + i) (agree i) (same-on n agree w i))

  -- equal matrices of two L1 frames, and of as many as the delay takes
  two-shown : (t : ℕ) → F t ≡ G t → F (suc t) ≡ G (suc t) → (defined mode F t).matrices ≡ (defined mode G t).matrices
      → (defined mode F (suc t)).matrices ≡ (defined mode G (suc t)).matrices
      → (e : Extended) → SameWaiting (kind_of mode e) (t % 2) (memory_of (memory_before mode F t) e) (memory_of (memory_before mode G t) e)
  unfolding defined memory_before
  two-shown t e f p q = extended-shown mode (t % 2) (omega arith) _ _ (F t) (F (suc t)) (rw (← e) at p) (rw (← e, ← f, halves t) at q)

  pub same_from : (n d : ℕ) → 2 ≤ d → delay_frames (main_of mode) ≤ d → ((i : ℕ) → F (n + i) ≡ G (n + i))
      → ((i : ℕ) → i < d → (defined mode F (n + i)).matrices ≡ (defined mode G (n + i)).matrices) → SameAt n
  same_from n d two enough agree shown =
      record {
        extended = two-shown n (rw (add-zero n) at (agree 0)) (rw (← one) (agree 1)) (rw (add-zero n) at (shown 0 (omega arith))) (rw (← one) (shown 1 (omega arith)));
        delay = delay-shown mode F G n (λ i h. shown i (omega arith));
      }
    where
      one : n + 1 ≡ suc n
      one = omega arith
