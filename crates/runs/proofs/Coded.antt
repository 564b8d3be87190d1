-- Cells that a reading does not refuse are the coding of the frames that it writes. Assumes nothing.
use Prim.Native.Nat.{ℕ, ◌+◌, ◌*◌, ◌/◌, ◌%◌, ◌<◌}
use mathlib.Core.Path.{◌≡◌, refl, sym, ap, ◌∙◌}
use mathlib.Core.Bool.{Bool, true, false, not, ◌||◌, true≢false}
use native.Mathlib.Nat.{mod-lt, div-add-mod', div-lt_iff_lt-mul, not-suc-le-zero}
use native.Mathlib.Omega.{arith}
use lib.Dec.{T, eqb, eqb→eq}
use lib.Arith.{digits_lt}
use Rattle.bits.specs.Bits.{bit_at}
use Rattle.bits.specs.Tests.{all}
use Rattle.bits.proofs.Packed.{bit_at_lt, bit_at-packed}
use Rattle.bits.proofs.Tests.{all-at}
use Rattle.scrambling.specs.Scrambler.{scrambled_each}
use Rattle.scrambling.proofs.Laws.{scrambled-bit}
use Rattle.scrambling.proofs.Frames.{scrambled_each-bit, scrambled_each-same}
use Rattle.coding.specs.declared.Rate.{Rate}
use Rattle.coding.specs.declared.Rate.TheVariants.{TwoFifths, Half}
use Rattle.coding.specs.Coder.{coded, rate12}
use Rattle.coding.specs.Rates.{coded_length}
use Rattle.coding.specs.Buffers.{Long, coded_each, uncoded_each}
use Rattle.coding.specs.Channel.{channel, no_frame, part, unchannel}
use Rattle.coding.proofs.Channel.{length-pos}
use Rattle.coding.proofs.Passes.{channel-each, coded_each-same, uncoded_each-bit, unchannel-each}
use Rattle.coding.proofs.Paths.{each_twice, then-whole}
use Rattle.runs.specs.declared.Kind.{Kind}
use Rattle.runs.specs.declared.Kind.TheVariants.{Unused, Narrow, Wide}
use Rattle.runs.specs.declared.Main.{Main}
use Rattle.runs.specs.declared.Main.TheVariants.{Plain, Mp5, Mp6}
use Rattle.runs.specs.MainChannels.{p1_frames, p1_bits, p2_bits, p1'_bits, p1_len, p1'_len}
use Rattle.runs.specs.Lengths.{matrix_len, pids_len}
use Rattle.runs.specs.Chain.{Buffer, p1_coded, p1_cells, p2_cells, pids_cells, p1_of, p2_of, pids_of, p1_bad, p2_bad, pids_bad, coded_of, frame_bad, frames_of, gathered}
use Rattle.runs.specs.Paths.{agree, p1'_bad, p1'_cells, scrambled_of}
use Rattle.runs.proofs.PM.{p1-long, p1-size, pids-long}
use Rattle.runs.proofs.Rows.{long}

-- ---- cells that are coded frames, each of them, are the coding of what they decode to

module _ (rate : Rate) (n : ℕ) (l : Long n) where
  abbrev L : ℕ
  L = coded_length rate n

  pos : 0 < n
  pos = omega (arith, l.enough)

  L-pos : 0 < L
  L-pos = length-pos rate n l.enough

  part_of : (K m : ℕ) → m < K * L → m / L < K
  part_of K m h = (div-lt_iff_lt-mul L-pos).1 h

  -- of one frame after the other
  whole_each : (y s : ℕ → ℕ) (K : ℕ) → ((f : ℕ) → f < K → no_frame rate n y f ≡ false)
      → ((i : ℕ) → i < K * n → uncoded_each rate n y i ≡ s i) → (m : ℕ) → m < K * L → y m ≡ coded_each rate n s m
  unfolding coded_each
  whole_each y s K good same m h =
      ap y (sym (div-add-mod' m L))
      ∙ then-whole rate n l s y (m / L) (good (m / L) (part_of K m h)) (λ i j. same (m / L * n + i) (inside i j)) (m % L) (mod-lt m L-pos)
    where
      inside : (i : ℕ) → i < n → m / L * n + i < K * n
      inside i j = digits_lt (part_of K m h) j

  -- frames of which s are the scrambled ones
  channel-of : (s w : ℕ → ℕ) (K : ℕ) → ((i : ℕ) → i < K * n → scrambled_each n w i ≡ s i) → (m : ℕ) → m < K * L → coded_each rate n s m ≡ channel rate n w m
  channel-of s w K same m h =
      sym (coded_each-same rate n K (scrambled_each n w) s pos same m (part_of K m h)) ∙ channel-each rate n w m pos

  -- and of a buffer of what is decoded
  whole-channel : (y w : ℕ → ℕ) (K : ℕ) → ((f : ℕ) → f < K → no_frame rate n y f ≡ false) → ((i : ℕ) → i < K * n → w i ≡ unchannel rate n y i)
      → (m : ℕ) → m < K * L → y m ≡ channel rate n w m
  whole-channel y w K good same m h =
      whole_each y (uncoded_each rate n y) K good (λ i j. refl) m h
      ∙ channel-of (uncoded_each rate n y) w K
      (λ i j.
      scrambled_each-same n w _ i (same i j ∙ sym (unchannel-each rate n y i)) ∙ each_twice n (uncoded_each rate n y) i (uncoded_each-bit rate n y i))
      m h

unchannel-bit : (rate : Rate) (n : ℕ) (y : ℕ → ℕ) (i : ℕ) → unchannel rate n y i < 2
unfolding unchannel
unchannel-bit rate n y i = scrambled-bit _ _

-- ---- P1

-- the frames written, scrambled again, are those that PM brought
again : (k : Main) (s : Buffer) (i : ℕ) → i < 8 * p1_len k → scrambled_each (p1_bits k) (bit_at (scrambled_of k s)) i ≡ bit_at s i
unfolding scrambled_of
again k s i h =
    scrambled_each-same (p1_bits k) _ _ i (bit_at-packed (p1_len k) _ (λ j _. scrambled_each-bit (p1_bits k) (bit_at s) j) i h)
    ∙ each_twice (p1_bits k) (bit_at s) i (bit_at_lt s i)

p1-of-bit : (k : Main) (pm : Buffer) (i : ℕ) → i < 8 * p1_len k → uncoded_each TwoFifths (p1_bits k) (p1_cells pm) i ≡ bit_at (p1_of k pm) i
unfolding p1_of
p1-of-bit k pm i h = sym (bit_at-packed (p1_len k) _ (λ j _. uncoded_each-bit TwoFifths (p1_bits k) (p1_cells pm) j) i h)

pub first-codes : (k : Main) (pm : Buffer) → ((f : ℕ) → f < p1_frames k → p1_bad k pm f ≡ false) → (i : ℕ) → i < p1_coded k
    → p1_cells pm i ≡ channel TwoFifths (p1_bits k) (bit_at (scrambled_of k (p1_of k pm))) i
unfolding p1_bad
first-codes k pm good i h =
    whole_each TwoFifths (p1_bits k) (p1-long k) (p1_cells pm) (bit_at (p1_of k pm)) (p1_frames k) good
    (λ j b. p1-of-bit k pm j (omega (arith, p1-size k))) i h
    ∙ channel-of TwoFifths (p1_bits k) (p1-long k) (bit_at (p1_of k pm)) (bit_at (scrambled_of k (p1_of k pm))) (p1_frames k)
    (λ j b. again k (p1_of k pm) j (omega (arith, p1-size k))) i h

holds : (b : Bool) → b ≡ true → T b
holds true e = tt
holds false e = absurd (true≢false (sym e))

-- a second path that is not refused: its frames are whole, and are those of s
or-false : (a b : Bool) → (a || not b) ≡ false → (a ≡ false) × (b ≡ true)
or-false true b e = absurd (true≢false e)
or-false false true e = (refl, refl)
or-false false false e = absurd (true≢false e)

module _ (n : ℕ) (l : Long n) (s : Buffer) (y : ℕ → ℕ) where
  abbrev is : ℕ → ℕ → Bool
  is f i = eqb (part n f (uncoded_each Half n y) i) (part n f (bit_at s) i)

  second-frame : (f : ℕ) → (no_frame Half n y f || not (all n (is f))) ≡ false
      → (m : ℕ) → m < coded_length Half n → part (coded_length Half n) f y m ≡ coded rate12 n (part n f (bit_at s)) m
  second-frame f good =
      let (whole, same) = or-false (no_frame Half n y f) (all n (is f)) good in
      then-whole Half n l (bit_at s) y f whole (λ i j. eqb→eq _ _ (all-at n (is f) (holds (all n (is f)) same) i j))

  second : ((f : ℕ) → f < 8 → (no_frame Half n y f || not (all n (is f))) ≡ false)
      → (m : ℕ) → m < 8 * coded_length Half n → y m ≡ coded_each Half n (bit_at s) m
  unfolding coded_each
  second good m h =
      let f = m / coded_length Half n in
      ap y (sym (div-add-mod' m (coded_length Half n)))
      ∙ second-frame f (good f (part_of Half n l 8 m h)) (m % coded_length Half n) (mod-lt m (L-pos Half n l))

pub second-codes : (k : Main) (x s : Buffer) → ((f : ℕ) → f < p1_frames k → p1'_bad k x s f ≡ false) → (i : ℕ) → i < 8 * p1'_len k
    → p1'_cells k x i ≡ channel Half (p1'_bits k) (bit_at (scrambled_of k s)) i
unfolding p1'_bad agree
second-codes Plain x s good i h = absurd (not-suc-le-zero h)
second-codes Mp5 x s good i h =
    let l : Long 4608 = long 4608 (omega arith) refl in
    second 4608 l s (p1'_cells Mp5 x) good i h ∙ channel-of Half 4608 l (bit_at s) (bit_at (scrambled_of Mp5 s)) 8 (λ j b. again Mp5 s j b) i h
second-codes Mp6 x s good i h =
    let l : Long 9216 = long 9216 (omega arith) refl in
    second 9216 l s (p1'_cells Mp6 x) good i h ∙ channel-of Half 9216 l (bit_at s) (bit_at (scrambled_of Mp6 s)) 8 (λ j b. again Mp6 s j b) i h

-- ---- PIDS and P2

pub pids-codes : (pm : Buffer) → ((f : ℕ) → f < 16 → pids_bad pm f ≡ false) → (i : ℕ) → i < 16 * coded_length TwoFifths 80
    → pids_cells pm i ≡ channel TwoFifths 80 (bit_at (pids_of pm)) i
unfolding pids_bad pids_of pids_len
pids-codes pm good =
    whole-channel TwoFifths 80 pids-long (pids_cells pm) _ 16 good (λ i h. bit_at-packed 160 _ (λ j _. unchannel-bit TwoFifths 80 (pids_cells pm) j) i h)

pub p2-codes : (k : Main) (pm : Buffer) → p2_bad k pm 0 ≡ false → (i : ℕ) → i < coded_length TwoFifths (p2_bits k)
    → p2_cells k pm i ≡ channel TwoFifths (p2_bits k) (bit_at (p2_of k pm)) i
unfolding p2_bad p2_of
p2-codes Plain pm good i h = absurd (not-suc-le-zero h)
p2-codes Mp5 pm good i h =
    whole-channel TwoFifths 109312 (long 109312 (omega arith) refl) (p2_cells Mp5 pm) _ 1 (only good)
    (λ i h. bit_at-packed 13664 _ (λ j _. unchannel-bit TwoFifths 109312 (p2_cells Mp5 pm) j) i h) i h
  where
    only : no_frame TwoFifths 109312 (p2_cells Mp5 pm) 0 ≡ false → (f : ℕ) → f < 1 → no_frame TwoFifths 109312 (p2_cells Mp5 pm) f ≡ false
    only e f h = let z : f ≡ 0 = omega arith in rw z e
p2-codes Mp6 pm good i h =
    whole-channel TwoFifths 72448 (long 72448 (omega arith) refl) (p2_cells Mp6 pm) _ 1 (only good)
    (λ i h. bit_at-packed 9056 _ (λ j _. unchannel-bit TwoFifths 72448 (p2_cells Mp6 pm) j) i h) i h
  where
    only : no_frame TwoFifths 72448 (p2_cells Mp6 pm) 0 ≡ false → (f : ℕ) → f < 1 → no_frame TwoFifths 72448 (p2_cells Mp6 pm) f ≡ false
    only e f h = let z : f ≡ 0 = omega arith in rw z e

-- ---- P3 and P4

pub extended-codes : (k : Kind) (half : ℕ) (x : Buffer) → ((f : ℕ) → f < 8 → frame_bad k half x f ≡ false) → (i : ℕ) → i < 8 * matrix_len k
    → gathered k half x i ≡ coded_of k (frames_of k half x) i
unfolding frame_bad frames_of coded_of
extended-codes Unused half x good i h = absurd (not-suc-le-zero h)
extended-codes Narrow half x good i h =
    whole-channel Half 2304 (long 2304 (omega arith) refl) (gathered Narrow half x) _ 8 good
    (λ j b. bit_at-packed 2304 _ (λ m _. unchannel-bit Half 2304 (gathered Narrow half x) m) j b) i h
extended-codes Wide half x good i h =
    whole-channel Half 4608 (long 4608 (omega arith) refl) (gathered Wide half x) _ 8 good
    (λ j b. bit_at-packed 4608 _ (λ m _. unchannel-bit Half 4608 (gathered Wide half x) m) j b) i h
