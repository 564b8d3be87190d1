-- Waiting bits: they alone of a memory show in the matrices that follow, and they all show within two L1 frames. Assumes nothing.
use Prim.Native.Nat.{ℕ, zero, suc, ◌+◌, ◌-◌, ◌*◌, ◌%◌, ◌≤◌, ◌<◌}
use mathlib.Core.Path.{◌≡◌, sym, ap, ◌∙◌}
use mathlib.Core.Logic.{◌≢◌}
use native.Mathlib.Nat.{add-mod_right, mod-eq_of_lt, mul-le-mul_right, not-suc-le-zero}
use native.Mathlib.Decide.{dec_lt, ℕ_discrete}
use native.Mathlib.Omega.{arith}
use Rattle.bits.specs.Bits.{bit_at, written}
use Rattle.bits.proofs.Written.{written-before, written_last, written-lt, written-other}
use Rattle.bits.proofs.Packed.{bit_at_lt, bit_at-packed, packed-cong}
use Rattle.coding.specs.declared.Rate.TheVariants.{Half}
use Rattle.coding.proofs.Channel.{channel-bit}
use Rattle.interleaving.specs.PX.{coded_bytes, coded_bits, cells, place, step_of, after, read}
use Rattle.interleaving.specs.FinderPX.{source}
use Rattle.interleaving.proofs.OncePX.{px-each-once}
use Rattle.runs.specs.declared.Kind.{Kind}
use Rattle.runs.specs.declared.Kind.TheVariants.{Unused, Narrow, Wide}
use Rattle.runs.specs.Lengths.{frame_bits, table_row, matrix_len, sender_len}
use Rattle.runs.specs.Chain.{Buffer, coded_of, px_of, mem_of}
use Rattle.runs.proofs.Rows.{bits_of, matrix-bits, memory-bits}
use Rattle.comparing.specs.Waiting.{step_from, Waits, SameWaiting}

-- a cell depends on what stood there only where no bit is written to it
pub written_same : (place bits : ℕ → ℕ) (n : ℕ) (m m' : ℕ → ℕ) (c : ℕ) → (((i : ℕ) → i < n → c ≢ place i) → m c ≡ m' c)
    → written place bits n m c ≡ written place bits n m' c
unfolding written
written_same place bits zero m m' c same = same (λ i h. absurd (not-suc-le-zero h))
written_same place bits (suc n) m m' c same =
    elim (ℕ_discrete c (place n)) [
      | yes e ↦ written_last place bits n m c e ∙ sym (written_last place bits n m' c e)
      | no f ↦
          written-before place bits n m c f
          ∙ written_same place bits n m m' c (λ never. same (λ i h. elim (ℕ_discrete i n) [ yes e ↦ λ q. f (q ∙ ap place e) | no g ↦ never i (omega arith) ]))
          ∙ sym (written-before place bits n m' c f)
    ]

-- ---- steps from now

later-on : (kind half : ℕ) → half < 2 → (d : ℕ) → step_from kind half (coded_bits kind + d) ≡ step_from kind ((half + 1) % 2) d
unfolding step_from
later-on kind zero lh d = ap (λ (k : ℕ). k % cells kind) (omega arith)
later-on kind (suc zero) lh d =
    let around : 1 * coded_bits kind + (coded_bits kind + d) ≡ 0 * coded_bits kind + d + cells kind = omega arith in
    ap (λ (k : ℕ). k % cells kind) around ∙ add-mod_right (0 * coded_bits kind + d) (cells kind)
later-on kind (suc (suc h)) lh d = absurd (omega arith)

module _ (kind half : ℕ) (lh : half < 2) where
  abbrev H : ℕ
  H = coded_bits kind

  abbrev next : ℕ
  next = (half + 1) % 2

  -- the steps of this L1 frame
  step-lt : (j : ℕ) → j < H → step_of kind half j < cells kind
  step-lt j l = let one : half ≤ 1 = omega arith in omega (arith, mul-le-mul_right H one)

  step-now : (j : ℕ) → j < H → step_from kind half j ≡ step_of kind half j
  unfolding step_from
  step-now j l = mod-eq_of_lt (step-lt j l)

  apart : (c j : ℕ) → j < H → c ≢ place kind (step_of kind half j) → place kind (step_from kind half j) ≢ c
  apart c j l ne e = ne (sym e ∙ ap (place kind) (step-now j l))

  apart-back : (c j : ℕ) → j < H → place kind (step_from kind half j) ≢ c → c ≢ place kind (step_of kind half j)
  apart-back c j l ne e = ne (ap (place kind) (step-now j l) ∙ sym e)

  -- what waits shows when it is read, and until then it stays
  module _ (b m : ℕ → ℕ) (c : ℕ) where
    pub shows-now : (d : ℕ) → d < H → Waits kind half c d → read kind half b m d ≡ m c
    unfolding read after
    shows-now d l w =
        ap (written _ b (suc d) m) (sym (step-now d l) ∙ w.read) ∙ written-other _ b (suc d) m c (λ i h. apart-back c i (omega arith) (w.kept i (omega arith)))

    pub stays : (d : ℕ) → Waits kind half c (H + d) → after kind half b m H c ≡ m c
    unfolding after
    stays d w = written-other _ b H m c (λ i h. apart-back c i h (w.kept i (omega arith)))

  -- what no step up to its own writes waits; and so does what none of this L1 frame writes and waits after it
  waits-now : (j : ℕ) → j < H → ((i : ℕ) → i < suc j → step_of kind half j ≢ place kind (step_of kind half i)) → Waits kind half (step_of kind half j) j
  waits-now j l never = record { inside = step-lt j l; read = step-now j l; kept = λ s h. apart _ s (omega arith) (never s (omega arith)) }

  waits-on : (c d : ℕ) → Waits kind next c d → ((i : ℕ) → i < H → c ≢ place kind (step_of kind half i)) → Waits kind half c (H + d)
  waits-on c d w never = record { inside = w.inside; read = later-on kind half lh d ∙ w.read; kept = λ s h. go s h (dec_lt s H) }
    where
      go : (s : ℕ) → s ≤ H + d → Dec (s < H) → place kind (step_from kind half s) ≢ c
      go s h (yes l) = apart c s l (never s l)
      go s h (no l) =
          let from : s ≡ H + (s - H) = omega arith in
          λ e. w.kept (s - H) (omega arith) (ap (place kind) (sym (later-on kind half lh (s - H)) ∙ ap (step_from kind half) (sym from)) ∙ e)

  waits-next : (c d : ℕ) → Waits kind half c (H + d) → Waits kind next c d
  waits-next c d w =
      record {
        inside = w.inside;
        read = sym (later-on kind half lh d) ∙ w.read;
        kept = λ s h e. w.kept (H + s) (omega arith) (ap (place kind) (later-on kind half lh s) ∙ e);
      }

  -- a bit waits less than two L1 frames
  waits-short : kind < 2 → (c d : ℕ) → Waits kind half c d → d < cells kind
  unfolding step_from
  waits-short lk c d w = go (dec_lt (source kind c) (half * H))
    where
      below : source kind c < cells kind
      below = (px-each-once kind lk).back c w.inside

      start : half * H ≤ 1 * H
      start = mul-le-mul_right H (omega arith)

      writes : place kind (source kind c) ≡ c
      writes = (px-each-once kind lk).back-there c w.inside

      -- the step from now that writes to the cell
      until : (s : ℕ) → s < cells kind → step_from kind half s ≡ source kind c → d < cells kind
      until s h e = elim (dec_lt d s) [ yes l ↦ omega arith | no l ↦ absurd (w.kept s (omega arith) (ap (place kind) e ∙ writes)) ]

      go : Dec (source kind c < half * H) → d < cells kind
      go (yes l) =
          let from : half * H + (source kind c + cells kind - half * H) ≡ source kind c + cells kind = omega (arith, start) in
          until (source kind c + cells kind - half * H) (omega arith)
          (ap (λ (k : ℕ). k % cells kind) from ∙ add-mod_right (source kind c) (cells kind) ∙ mod-eq_of_lt below)
      go (no l) =
          let from : half * H + (source kind c - half * H) ≡ source kind c = omega arith in
          until (source kind c - half * H) (omega (arith, below)) (ap (λ (k : ℕ). k % cells kind) from ∙ mod-eq_of_lt below)

  -- ---- one L1 frame that brings the coded bits b

  module _ (b m m' : ℕ → ℕ) (same : (c d : ℕ) → Waits kind half c d → m c ≡ m' c) where
    pub same_read : (j : ℕ) → j < H → read kind half b m j ≡ read kind half b m' j
    unfolding read after
    same_read j l = written_same _ b (suc j) m m' _ (λ never. same (step_of kind half j) j (waits-now j l never))

    pub same_after : (c d : ℕ) → Waits kind next c d → after kind half b m H c ≡ after kind half b m' H c
    unfolding after
    same_after c d w = written_same _ b H m m' c (λ never. same c (H + d) (waits-on c d w never))

-- ---- the memories of an extended channel, in bytes

-- a cell is of a channel that the mode has
pub used : (k : Kind) (c : ℕ) → c < cells (table_row k) → table_row k < 2
unfolding coded_bytes
used Unused c h = absurd (not-suc-le-zero h)
used Narrow c h = omega arith
used Wide c h = omega arith

module _ (k : Kind) where
  after-lt : (half : ℕ) (m a : Buffer) (n c : ℕ) → after (table_row k) half (coded_of k a) (bit_at m) n c < 2
  unfolding after coded_of
  after-lt half m a n c = written-lt _ _ n _ (channel-bit Half (frame_bits k) (bit_at a)) (bit_at_lt m) c

  -- the bits of the memory and of the matrix
  mem-bit : (half : ℕ) (m a : Buffer) (c : ℕ) → c < cells (table_row k)
      → bit_at (mem_of k half m a) c ≡ after (table_row k) half (coded_of k a) (bit_at m) (bits_of k) c
  unfolding mem_of
  mem-bit half m a c h = bit_at-packed (sender_len k) _ (λ i _. after-lt half m a _ i) c (omega (arith, memory-bits k))

  pub px-bit : (half : ℕ) (m a : Buffer) (j : ℕ) → j < bits_of k
      → bit_at (px_of k half m a) j ≡ read (table_row k) half (coded_of k a) (bit_at m) j
  unfolding px_of read
  px-bit half m a j h = bit_at-packed (matrix_len k) _ (λ i _. after-lt half m a (suc i) _) j (omega (arith, matrix-bits k))

  module _ (half : ℕ) (lh : half < 2) (m m' : Buffer) where
    -- equal waiting bits: the next matrix is equal, and what waits after it
    pub px-same : SameWaiting k half m m' → (a : Buffer) → px_of k half m a ≡ px_of k half m' a
    unfolding px_of
    px-same w a = packed-cong (matrix_len k) _ _ (λ j h. same_read (table_row k) half lh (coded_of k a) (bit_at m) (bit_at m') w.bits j (omega (arith, matrix-bits k)))

    pub mem-same : SameWaiting k half m m' → (a : Buffer) → SameWaiting k ((half + 1) % 2) (mem_of k half m a) (mem_of k half m' a)
    mem-same w a =
        record {
          bits = λ c d x.
              mem-bit half m a c x.inside
              ∙ same_after (table_row k) half lh (coded_of k a) (bit_at m) (bit_at m') w.bits c d x
              ∙ sym (mem-bit half m' a c x.inside);
        }

    -- two equal matrices show that the waiting bits were
    pub shown-same : (a b : Buffer) → ((j : ℕ) → j < bits_of k → bit_at (px_of k half m a) j ≡ bit_at (px_of k half m' a) j)
        → ((j : ℕ) → j < bits_of k
        → bit_at (px_of k ((half + 1) % 2) (mem_of k half m a) b) j ≡ bit_at (px_of k ((half + 1) % 2) (mem_of k half m' a) b) j)
        → SameWaiting k half m m'
    shown-same a b e f = record { bits = λ c d x. go c d x (dec_lt d (bits_of k)) }
      where
        go : (c d : ℕ) → Waits (table_row k) half c d → Dec (d < bits_of k) → bit_at m c ≡ bit_at m' c
        go c d x (yes l) = sym (first m) ∙ e d l ∙ first m'
          where
            first : (m : Buffer) → bit_at (px_of k half m a) d ≡ bit_at m c
            first m = px-bit half m a d l ∙ shows-now (table_row k) half lh (coded_of k a) (bit_at m) c d l x
        go c d x (no l) = sym (second m) ∙ f (d - bits_of k) (omega (arith, short)) ∙ second m'
          where
            short : d < cells (table_row k)
            short = waits-short (table_row k) half lh (used k c x.inside) c d x

            from : d ≡ bits_of k + (d - bits_of k)
            from = omega arith

            waits : Waits (table_row k) half c (bits_of k + (d - bits_of k))
            waits = rw (← from) x

            second : (m : Buffer) → bit_at (px_of k ((half + 1) % 2) (mem_of k half m a) b) (d - bits_of k) ≡ bit_at m c
            second m =
                px-bit ((half + 1) % 2) (mem_of k half m a) b (d - bits_of k) (omega (arith, short))
                ∙ shows-now (table_row k) ((half + 1) % 2) (omega arith) (coded_of k b) (bit_at (mem_of k half m a)) c (d - bits_of k) (omega (arith, short))
                (waits-next (table_row k) half lh c (d - bits_of k) waits)
                ∙ mem-bit half m a c x.inside
                ∙ stays (table_row k) half lh (coded_of k a) (bit_at m) c (d - bits_of k) waits
