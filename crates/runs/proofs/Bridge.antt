-- From what the passes over coded buffers leave to the definitions of `Chain`: the passes read the coded bits alone. Assumes nothing.
use Prim.Native.Nat.{ℕ, suc, ◌+◌, ◌*◌, ◌/◌, ◌<◌, ◌≤◌}
use mathlib.Core.Path.{◌≡◌, refl, sym, ap, ap₂, ◌∙◌}
use mathlib.Core.List.{[], ◌++◌}
use native.Mathlib.Omega.{arith}
use lib.ListN.{length}
use Rattle.bits.specs.Bits.{bit_at, packed, written}
use Rattle.bits.proofs.Written.{written-cong}
use Rattle.bits.proofs.Beside.{in-first, in-second}
use Rattle.bits.proofs.Packed.{bit_at-packed, packed-cong}
use Rattle.bits.proofs.Parts.{packed-append}
use Rattle.coding.specs.declared.Rate.TheVariants.{TwoFifths, Half}
use Rattle.coding.specs.Buffers.{Buffers}
use Rattle.coding.specs.Channel.{channel}
use Rattle.coding.proofs.Channel.{channel-bit}
use Rattle.interleaving.specs.PM.{p1_place, pids_place, matrix}
use Rattle.interleaving.proofs.AtPositions.{matrix-is}
use Rattle.interleaving.specs.PX.{coded_bytes, coded_bits, step_of, after, read}
use Rattle.runs.specs.declared.Main.{Main}
use Rattle.runs.specs.declared.Main.TheVariants.{Plain, Mp5, Mp6}
use Rattle.runs.specs.declared.Kind.{Kind}
use Rattle.runs.specs.declared.Kind.TheVariants.{Unused, Narrow, Wide}
use Rattle.runs.specs.MainChannels.{p1_bits, p2_bits}
use Rattle.runs.specs.Lengths.{frame_bits, frame_len, table_row, matrix_len, sender_len, pm_len}
use Rattle.runs.specs.Chain.{Buffer, p1_coded, multiplexed, pm_of, coded_of, px_of, mem_of}
use Rattle.runs.proofs.PM.{p2_coded, multiplexed-bit}

-- ---- PM

pub matrix-same : (f g f' g' : ℕ → ℕ) → ((i : ℕ) → i < 365440 → f i ≡ f' i) → ((i : ℕ) → i < 3200 → g i ≡ g' i) → matrix f g ≡ matrix f' g'
matrix-same f g f' g' hf hg =
    matrix-is f g
    ∙ written-cong pids_place pids_place g g' 3200 _ (λ i h. (refl, hg i h))
    ∙ ap (written pids_place g' 3200) (written-cong p1_place p1_place f f' 365440 _ (λ i h. (refl, hf i h)))
    ∙ sym (matrix-is f' g')

pub pm-from : (k : Main) (a b c u pids : Buffer) → u ≡ packed 45680 (multiplexed k a b) → pids ≡ packed 400 (channel TwoFifths 80 (bit_at c))
    → packed 46080 (matrix (bit_at u) (bit_at pids)) ≡ pm_of k a b c
unfolding pm_of pm_len
pm-from k a b c u pids e d =
    ap (packed 46080)
    (matrix-same _ _ _ _
    (λ i h. ap (λ (x : Buffer). bit_at x i) e ∙ bit_at-packed 45680 _ (λ j _. multiplexed-bit k a b [] j) i h)
    (λ i h. ap (λ (x : Buffer). bit_at x i) d ∙ bit_at-packed 400 _ (λ j _. channel-bit TwoFifths 80 (bit_at c) j) i h))

-- the multiplexer's output is P1's coded bytes, and then P2's
p1-bytes : (k : Main) → 8 * (p1_coded k / 8) ≡ p1_coded k
p1-bytes Plain = refl
p1-bytes Mp5 = refl
p1-bytes Mp6 = refl

both_bytes : (k : Main) → p1_coded k / 8 + p2_coded k / 8 ≡ 45680
both_bytes Plain = refl
both_bytes Mp5 = refl
both_bytes Mp6 = refl

pub multiplexed-from : (k : Main) (a b : Buffer)
    → packed (p1_coded k / 8) (channel TwoFifths (p1_bits k) (bit_at a)) ++ packed (p2_coded k / 8) (channel TwoFifths (p2_bits k) (bit_at b))
    ≡ packed 45680 (multiplexed k a b)
unfolding multiplexed
multiplexed-from k a b =
    ap₂ (λ (x y : Buffer). x ++ y)
    (packed-cong (p1_coded k / 8) _ _ (λ i h. sym (in-first (p1_coded k) _ _ i (omega (arith, p1-bytes k)))))
    (packed-cong (p2_coded k / 8) _ _
    (λ i h. sym (ap (λ (n : ℕ). multiplexed k a b (n + i)) (p1-bytes k) ∙ in-second (p1_coded k) _ _ i)))
    ∙ packed-append (p1_coded k / 8) (p2_coded k / 8) (multiplexed k a b)
    ∙ ap (λ (n : ℕ). packed n (multiplexed k a b)) (both_bytes k)

-- ---- PX

pub matrix-bytes : (k : Kind) → coded_bytes (table_row k) ≡ matrix_len k
unfolding coded_bytes
matrix-bytes Unused = refl
matrix-bytes Narrow = refl
matrix-bytes Wide = refl

pub memory-bytes : (k : Kind) → 2 * coded_bytes (table_row k) ≡ sender_len k
unfolding coded_bytes
memory-bytes Unused = refl
memory-bytes Narrow = refl
memory-bytes Wide = refl

pub frame-bits : (k : Kind) → 8 * (frame_len k / 8) ≡ frame_bits k
frame-bits Unused = refl
frame-bits Narrow = refl
frame-bits Wide = refl

-- the eight frames of a channel that the mode uses, and their coded bits
pub used-buffers : (k : Kind) (frames coded : Buffer) → table_row k < 2 → length frames ≡ frame_len k → length coded ≡ matrix_len k
    → Buffers Half (length frames / 8) 8 frames coded
used-buffers Unused frames coded u p l = absurd (omega arith)
used-buffers Narrow frames coded u p l =
    let n : length frames / 8 ≡ 288 = ap (λ (x : ℕ). x / 8) p in
    record { enough = rw n (omega arith); even = rw n; plain = rw n p; long = rw n l }
used-buffers Wide frames coded u p l =
    let n : length frames / 8 ≡ 576 = ap (λ (x : ℕ). x / 8) p in
    record { enough = rw n (omega arith); even = rw n; plain = rw n p; long = rw n l }

module _ (k : Kind) (half : ℕ) (m a coded : Buffer) (e : coded ≡ packed (coded_bytes (table_row k)) (coded_of k a)) where
  code_is : (i : ℕ) → i < coded_bits (table_row k) → bit_at coded i ≡ coded_of k a i
  unfolding coded_of
  code_is i h = ap (λ (x : Buffer). bit_at x i) e ∙ bit_at-packed (coded_bytes (table_row k)) _ (λ j _. channel-bit Half (frame_bits k) (bit_at a) j) i h

  after_same : (n : ℕ) → n ≤ coded_bits (table_row k) → after (table_row k) half (bit_at coded) (bit_at m) n ≡ after (table_row k) half (coded_of k a) (bit_at m) n
  unfolding after
  after_same n h = written-cong _ _ _ _ n _ (λ i l. (refl, code_is i (omega arith)))

  pub px-from : packed (coded_bytes (table_row k)) (read (table_row k) half (bit_at coded) (bit_at m)) ≡ px_of k half m a
  unfolding px_of read
  px-from =
      packed-cong (coded_bytes (table_row k)) _ _ (λ j h. ap (λ (f : ℕ → ℕ). f (step_of (table_row k) half j)) (after_same (suc j) h))
      ∙ ap (λ (n : ℕ). packed n (λ j. after (table_row k) half (coded_of k a) (bit_at m) (suc j) (step_of (table_row k) half j))) (matrix-bytes k)

  pub mem-from : packed (2 * coded_bytes (table_row k)) (after (table_row k) half (bit_at coded) (bit_at m) (coded_bits (table_row k))) ≡ mem_of k half m a
  unfolding mem_of
  mem-from =
      ap (packed (2 * coded_bytes (table_row k))) (after_same (coded_bits (table_row k)) (omega arith))
      ∙ ap (λ (n : ℕ). packed n (after (table_row k) half (coded_of k a) (bit_at m) (coded_bits (table_row k)))) (memory-bytes k)
