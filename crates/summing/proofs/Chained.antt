-- What is sent for an L1 frame, and the memory after it, of modulo 2 sums of frames and memories. Assumes nothing.
use Prim.Native.Nat.{ℕ, zero, suc, ◌+◌, ◌%◌, ◌<◌}
use mathlib.Core.Path.{◌≡◌, sym, ap, ap₂, ◌∙◌, fun_ext}
use mathlib.Core.List.{List, ◌++◌}
use native.Mathlib.Omega.{arith}
use lib.ListN.{length, length-append}
use Rattle.bits.specs.Bits.{Bytes, bit_at}
use Rattle.bits.proofs.Written.{written-lt}
use Rattle.bits.proofs.Packed.{bit_at_lt, packed-bytes}
use Rattle.scrambling.proofs.Frames.{scrambled_each-bit}
use Rattle.coding.specs.declared.Rate.TheVariants.{TwoFifths, Half}
use Rattle.coding.specs.Channel.{channel}
use Rattle.coding.specs.Buffers.{coded_each}
use Rattle.coding.proofs.Channel.{channel-bit}
use Rattle.coding.proofs.Passes.{coded_each-bit}
use Rattle.interleaving.specs.PM.{p1_place, pids_place, matrix}
use Rattle.interleaving.specs.PX.{coded_bits, after, read}
use Rattle.interleaving.specs.PX2 as PX2
use Rattle.interleaving.proofs.AtPositions.{matrix-at}
use Rattle.interleaving.proofs.Passes.{matrix-lt}
use Rattle.interleaving.proofs.OncePX2 as once
use Rattle.control.specs.Control.{control_of}
use Rattle.runs.specs.declared.Kind.{Kind}
use Rattle.runs.specs.declared.Main.{Main}
use Rattle.runs.specs.declared.Extended.{Extended}
use Rattle.runs.specs.declared.Extended.TheVariants.{P3, P4}
use Rattle.runs.specs.MainChannels.{main_of, p1_bits, p2_bits, p1'_bits, p1'_row, p1_len, p1'_len, delay_len}
use Rattle.runs.specs.Lengths.{kind_of, frame_bits, table_row, matrix_len, sender_len, pm_len}
use Rattle.runs.specs.Chain.{Buffer, p1_coded, multiplexed, pm_of, coded_of, px_of, mem_of}
use Rattle.runs.specs.Paths.{scrambled_of, oldest, waiting, p1'_of}
use Rattle.runs.specs.Lent.{Frames, Memory, frame_of, memory_of, signal_of, memory_next}
use Rattle.runs.specs.Defined.{memory_before, defined}
use Rattle.runs.proofs.Lists.{bytes-append}
use Rattle.runs.proofs.PM.{multiplexed-bit, scrambled-length}
use Rattle.runs.proofs.PX.{matrix-length, memory-length}
use Rattle.runs.proofs.PX2.{p1'-bytes, p1'-length}
use Rattle.runs.proofs.Delay.{waiting-length}
use Rattle.runs.proofs.Sender.{MemoryRight, zeros-right}
use Rattle.summing.specs.Sums.{total, sum_of, sum_number, sum_matrices, sum_memory}
use Rattle.summing.proofs.Sums.{Sums, sum-zero, sums-beside, sums-channel, sums-coded-each, sums-each, sums-written}
use Rattle.summing.proofs.Buffers.{SumsOf, bits-sum, bytes_drop, bytes-sum, every-all, length-sum, packed-sum, sum_is, sums-append, sums-drop, sums-packed, sums-take, zeros-sum}
use Rattle.summing.proofs.Controls.{control-sum}
use Rattle.runs.proofs.Cases.{each_extended}

module _ {R : Type 0} (rs : List R) where
  -- frames whose bits are the sums of those of the things, and a number that is the sum of theirs
  pub record SumsFrames (f : R → Frames) (g : Frames) : Type 0 where
    pub reserved-sum : g.reserved ≡ sum_number rs (λ r. (f r).reserved)
    pub p1-sums : SumsOf rs (λ r. (f r).p1) g.p1
    pub pids-sums : SumsOf rs (λ r. (f r).pids) g.pids
    pub p2-sums : SumsOf rs (λ r. (f r).p2) g.p2
    pub extended-sums : (e : Extended) → SumsOf rs (λ r. frame_of (f r) e) (frame_of g e)

  -- a memory that is the sum of theirs, which have the lengths of a mode
  pub record SumsMemory (mode : ℕ) (m : R → Memory) (n : Memory) : Type 0 where
    pub is : n ≡ sum_memory rs m
    pub right : (r : R) → MemoryRight sender_len mode (m r)

module _ {R : Type 0} (rs : List R) (odd : length rs % 2 ≡ 1) where
  -- 10.4.1
  sums-matrix : (f g : R → ℕ → ℕ) (p q : ℕ → ℕ) → Sums rs f p → Sums rs g q → Sums rs (λ r. matrix (f r) (g r)) (matrix p q)
  sums-matrix f g p q ef eg c =
      matrix-at p q c
      ∙ sums-written pids_place rs g q _ _ eg (sums-written p1_place rs f p _ _ ef (λ c. sum-zero rs) 365440) 3200 c
      ∙ ap (λ (x : R → ℕ). total rs x % 2) (fun_ext (λ r. sym (matrix-at (f r) (g r) c)))

  pub pm-sum : (k : Main) (a b c : R → Buffer) (s u v : Buffer) → SumsOf rs a s → SumsOf rs b u → SumsOf rs c v
      → pm_of k s u v ≡ sum_of rs (λ r. pm_of k (a r) (b r) (c r))
  unfolding pm_of multiplexed
  pm-sum k a b c s u v ea eb ec =
      packed-sum pm_len rs odd _ _ (λ r. matrix-lt _ _ (multiplexed-bit k (a r) (b r) (c r)) (channel-bit _ _ _)) (matrix-lt _ _ (multiplexed-bit k s u v) (channel-bit _ _ _))
      (λ i _. sums-matrix (λ r. multiplexed k (a r) (b r)) (λ r. channel TwoFifths 80 (bit_at (c r))) (multiplexed k s u) (channel TwoFifths 80 (bit_at v))
      (sums-beside (p1_coded k) rs _ _ _ _ (sums-channel TwoFifths (p1_bits k) rs odd _ _ ea) (sums-channel TwoFifths (p2_bits k) rs odd _ _ eb))
      (sums-channel TwoFifths 80 rs odd _ _ ec) i)

  -- 10.4.2
  module _ (k : Kind) (half : ℕ) (m a : R → Buffer) (n s : Buffer) (em : SumsOf rs m n) (ea : SumsOf rs a s) where
    sums-after : (j : ℕ) → Sums rs (λ r. after (table_row k) half (coded_of k (a r)) (bit_at (m r)) j) (after (table_row k) half (coded_of k s) (bit_at n) j)
    unfolding after coded_of
    sums-after j = sums-written _ rs _ _ _ _ (sums-channel Half (frame_bits k) rs odd _ _ ea) em j

    after-lt : (m a : Buffer) (j c : ℕ) → after (table_row k) half (coded_of k a) (bit_at m) j c < 2
    unfolding after coded_of
    after-lt m a j c = written-lt _ _ j _ (channel-bit Half (frame_bits k) (bit_at a)) (bit_at_lt m) c

    pub px-sum : px_of k half n s ≡ sum_of rs (λ r. px_of k half (m r) (a r))
    unfolding px_of read
    px-sum = packed-sum (matrix_len k) rs odd _ _ (λ r j. after-lt (m r) (a r) (suc j) _) (λ j. after-lt n s (suc j) _) (λ j _. sums-after (suc j) _)

    pub mem-sum : mem_of k half n s ≡ sum_of rs (λ r. mem_of k half (m r) (a r))
    unfolding mem_of
    mem-sum = packed-sum (sender_len k) rs odd _ _ (λ r. after-lt (m r) (a r) _) (after-lt n s _) (λ c _. sums-after (coded_bits (table_row k)) c)

  -- 9.2, and P1' by 10.4.2.3 and 10.4.2.4
  module _ (k : Main) (m a : R → Buffer) (n s : Buffer) (em : SumsOf rs m n) (ea : SumsOf rs a s) (sizes : (r : R) → length (m r) ≡ length n) where
    queue-sums : SumsOf rs (λ r. m r ++ scrambled_of k (a r)) (n ++ scrambled_of k s)
    unfolding scrambled_of
    queue-sums =
        sums-append rs m _ n _ sizes em
        (sums-packed (p1_len k) rs _ _ (λ r. scrambled_each-bit (p1_bits k) (bit_at (a r))) (scrambled_each-bit (p1_bits k) (bit_at s)) (λ i _. sums-each (p1_bits k) rs odd _ _ ea i))

    oldest-sums : SumsOf rs (λ r. oldest k (m r) (scrambled_of k (a r))) (oldest k n (scrambled_of k s))
    unfolding oldest
    oldest-sums = sums-take rs (p1_len k) _ _ queue-sums

    pub waiting-sums : SumsOf rs (λ r. waiting k (m r) (scrambled_of k (a r))) (waiting k n (scrambled_of k s))
    unfolding waiting
    waiting-sums = sums-drop rs (p1_len k) _ _ queue-sums

    p1'-lt : (b : Buffer) (i : ℕ) → PX2.matrix (p1'_row k) (coded_each Half (p1'_bits k) (bit_at b)) i < 2
    p1'-lt b i = once.matrix-lt (p1'_row k) _ (coded_each-bit Half (p1'_bits k) (bit_at b)) i

    pub p1'-sums : SumsOf rs (λ r. p1'_of k (oldest k (m r) (scrambled_of k (a r)))) (p1'_of k (oldest k n (scrambled_of k s)))
    unfolding p1'_of PX2.matrix
    p1'-sums =
        sums-packed (p1'_len k) rs _ _ (λ r. p1'-lt _) (p1'-lt _)
        (λ i _. sums-written (PX2.place (p1'_row k)) rs _ _ _ _ (sums-coded-each Half (p1'_bits k) rs _ _ oldest-sums) (λ c. sum-zero rs) _ i)

  -- ---- an L1 frame

  -- the parts of a memory
  module _ (mode : ℕ) (m : R → Memory) (n : Memory) (em : SumsMemory rs mode m n) where
    held-sums : (e : Extended) → SumsOf rs (λ r. memory_of (m r) e) (memory_of n e)
    unfolding sum_memory
    held-sums e =
        rw em.is
        (each_extended (λ e. SumsOf rs (λ r. memory_of (m r) e) (memory_of (sum_memory rs m) e))
        (bits-sum rs odd _ (sender_len (kind_of mode P3)) (every-all (λ r. (em.right r).extended P3) rs))
        (bits-sum rs odd _ (sender_len (kind_of mode P4)) (every-all (λ r. (em.right r).extended P4) rs))
        e)

    delay-sums : SumsOf rs (λ r. (m r).delayed) n.delayed
    unfolding sum_memory
    delay-sums = rw em.is (bits-sum rs odd _ (delay_len (main_of mode)) (every-all (λ r. (em.right r).delay) rs))

    delay-length : length n.delayed ≡ delay_len (main_of mode)
    unfolding sum_memory
    delay-length = rw em.is (length-sum rs odd _ (delay_len (main_of mode)) (every-all (λ r. (em.right r).delay) rs))

    delay-bytes : Bytes n.delayed
    unfolding sum_memory
    delay-bytes = rw em.is (bytes-sum rs odd _)

    delay-sizes : (r : R) → length (m r).delayed ≡ length n.delayed
    delay-sizes r = (em.right r).delay ∙ sym delay-length

  module _ (mode half : ℕ) (m : R → Memory) (f : R → Frames) (n : Memory) (g : Frames) (em : SumsMemory rs mode m n) (ef : SumsFrames rs f g) where
    -- the matrices of an extended channel
    abbrev px : Extended → Memory → Frames → Buffer
    px e m f = px_of (kind_of mode e) half (memory_of m e) (frame_of f e)

    -- and those of P1', which follow those of P4
    abbrev p1' : Memory → Frames → Buffer
    p1' m f = p1'_of (main_of mode) (oldest (main_of mode) m.delayed (scrambled_of (main_of mode) f.p1))

    px-is : (e : Extended) → px e n g ≡ sum_of rs (λ r. px e (m r) (f r))
    px-is e = px-sum (kind_of mode e) half _ _ _ _ (held-sums mode m n em e) (ef.extended-sums e)

    px2-is : px P4 n g ++ p1' n g ≡ sum_of rs (λ r. px P4 (m r) (f r) ++ p1' (m r) (f r))
    px2-is =
        sum_is rs odd _ _ (matrix_len (kind_of mode P4) + p1'_len (main_of mode)) (size n g)
        (bytes-append (px P4 n g) (p1' n g) (rw (px-is P4) (bytes-sum rs odd _)) (p1'-bytes (main_of mode) _))
        (every-all (λ r. size (m r) (f r)) rs)
        (sums-append rs _ _ (px P4 n g) _ (λ r. px-length (m r) (f r) ∙ sym (px-length n g)) px-sums
        (p1'-sums (main_of mode) _ _ _ _ (delay-sums mode m n em) ef.p1-sums (delay-sizes mode m n em)))
      where
        px-length : (m : Memory) (f : Frames) → length (px P4 m f) ≡ matrix_len (kind_of mode P4)
        px-length m f = matrix-length (kind_of mode P4) half m.for4 f.p4

        px-sums : SumsOf rs (λ r. px P4 (m r) (f r)) (px P4 n g)
        px-sums = rw (px-is P4) (bits-sum rs odd _ (matrix_len (kind_of mode P4)) (every-all (λ r. px-length (m r) (f r)) rs))

        size : (m : Memory) (f : Frames) → length (px P4 m f ++ p1' m f) ≡ matrix_len (kind_of mode P4) + p1'_len (main_of mode)
        size m f = length-append (px P4 m f) (p1' m f) ∙ ap₂ (λ (a b : ℕ). a + b) (px-length m f) (p1'-length (main_of mode) _)

    pub matrices-sum : (signal_of mode half n g).matrices ≡ sum_matrices rs (λ r. (signal_of mode half (m r) (f r)).matrices)
    unfolding signal_of sum_matrices
    matrices-sum = λ i. record { pm = pm i; px1 = px-is P3 i; px2 = px2-is i }
      where
        pm : pm_of (main_of mode) g.p1 g.p2 g.pids ≡ sum_of rs (λ r. pm_of (main_of mode) (f r).p1 (f r).p2 (f r).pids)
        pm = pm-sum (main_of mode) _ _ _ _ _ _ ef.p1-sums ef.p2-sums ef.pids-sums

    -- section 11
    pub control-is : (signal_of mode half n g).control ≡ sum_of rs (λ r. (signal_of mode half (m r) (f r)).control)
    unfolding signal_of
    control-is = ap (control_of mode) ef.reserved-sum ∙ control-sum rs mode odd (λ r. (f r).reserved)

    -- the internal matrix of an extended channel, and the delay memory
    held-is : (e : Extended) → mem_of (kind_of mode e) half (memory_of n e) (frame_of g e)
        ≡ sum_of rs (λ r. mem_of (kind_of mode e) half (memory_of (m r) e) (frame_of (f r) e))
    held-is e = mem-sum (kind_of mode e) half _ _ _ _ (held-sums mode m n em e) (ef.extended-sums e)

    abbrev goes : Memory → Frames → Buffer
    goes m f = waiting (main_of mode) m.delayed (scrambled_of (main_of mode) f.p1)

    goes-length : (m : Memory) (f : Frames) → length m.delayed ≡ delay_len (main_of mode) → length (goes m f) ≡ delay_len (main_of mode)
    goes-length m f h = waiting-length (main_of mode) m.delayed _ h (scrambled-length (main_of mode) f.p1)

    goes-bytes : Bytes (goes n g)
    unfolding waiting scrambled_of
    goes-bytes =
        bytes_drop (p1_len (main_of mode)) _
        (bytes-append n.delayed _ (delay-bytes mode m n em) (packed-bytes _ _ (λ i _. scrambled_each-bit (p1_bits (main_of mode)) (bit_at g.p1) i)))

    delayed-is : goes n g ≡ sum_of rs (λ r. goes (m r) (f r))
    delayed-is =
        sum_is rs odd _ _ (delay_len (main_of mode)) (goes-length n g (delay-length mode m n em)) goes-bytes
        (every-all (λ r. goes-length (m r) (f r) (em.right r).delay) rs)
        (waiting-sums (main_of mode) _ _ _ _ (delay-sums mode m n em) ef.p1-sums (delay-sizes mode m n em))

    next-right : (r : R) → MemoryRight sender_len mode (memory_next mode half (m r) (f r))
    unfolding memory_next
    next-right r =
        record {
          extended = each_extended _ (memory-length (kind_of mode P3) half (m r).for3 (f r).p3) (memory-length (kind_of mode P4) half (m r).for4 (f r).p4);
          delay = goes-length (m r) (f r) (em.right r).delay;
        }

    pub next-sums : SumsMemory rs mode (λ r. memory_next mode half (m r) (f r)) (memory_next mode half n g)
    unfolding memory_next sum_memory
    next-sums = record { is = λ i. record { for3 = held-is P3 i; for4 = held-is P4 i; delayed = delayed-is i }; right = next-right }

  -- ---- L1 frame by L1 frame from a fresh start

  module _ (mode : ℕ) (F : R → ℕ → Frames) (G : ℕ → Frames) where
    pub before-sums : (n : ℕ) → ((t : ℕ) → t < n → SumsFrames rs (λ r. F r t) (G t)) → SumsMemory rs mode (λ r. memory_before mode (F r) n) (memory_before mode G n)
    unfolding memory_before sum_memory
    before-sums zero each =
        record {
          is = λ i.
              record {
                for3 = zeros-sum rs odd (sender_len (kind_of mode P3)) i;
                for4 = zeros-sum rs odd (sender_len (kind_of mode P4)) i;
                delayed = zeros-sum rs odd (delay_len (main_of mode)) i;
              };
          right = λ r. zeros-right sender_len mode;
        }
    before-sums (suc n) each = next-sums mode (n % 2) _ _ _ _ (before-sums n (λ t h. each t (omega arith))) (each n (omega arith))

    module _ (n : ℕ) (each : (t : ℕ) → t < suc n → SumsFrames rs (λ r. F r t) (G t)) where
      before : SumsMemory rs mode (λ r. memory_before mode (F r) n) (memory_before mode G n)
      before = before-sums n (λ t h. each t (omega arith))

      pub defined-matrices : (defined mode G n).matrices ≡ sum_matrices rs (λ r. (defined mode (F r) n).matrices)
      unfolding defined
      defined-matrices = matrices-sum mode (n % 2) _ _ _ _ before (each n (omega arith))

      pub defined-control : (defined mode G n).control ≡ sum_of rs (λ r. (defined mode (F r) n).control)
      unfolding defined
      defined-control = control-is mode (n % 2) _ _ _ _ before (each n (omega arith))
