-- Frames coded one by one: a channel is its frames scrambled and then coded, and the way back. Assumes nothing.
use mathlib.Core.Path.{◌≡◌, refl, ap, ◌∙◌}
use mathlib.Core.List.{List}
use Prim.Native.Nat.{ℕ, ◌+◌, ◌*◌, ◌/◌, ◌%◌, ◌<◌, ◌≤◌}
use native.Mathlib.Nat.{div-lt_iff_lt-mul, mul_left_comm}
use native.Mathlib.Omega.{arith}
use lib.Arith.{digits_mod, digits_lt}
use lib.ListN.{length}
use Rattle.bits.specs.Bits.{bit_at, packed}
use Rattle.bits.proofs.Packed.{bit_at-packed, packed-cong}
use Rattle.scrambling.specs.Scrambler.{sequence, scrambled, scrambled_each}
use Rattle.scrambling.proofs.Frames.{scrambled_each-bit, scrambled_each-same}
use Rattle.coding.specs.declared.Rate.{Rate}
use Rattle.coding.specs.declared.Rate.TheVariants.{TwoFifths, Half}
use Rattle.coding.specs.Rates.{pattern_of, coded_length}
use Rattle.coding.specs.Channel.{Agree, channel, unchannel}
use Rattle.coding.specs.Buffers.{Buffers, coded_each, uncoded_each}
use Rattle.coding.specs.Units.{group_size}
use Rattle.coding.proofs.Coder.{coded-bit, coded-same, uncoded-bit}
use Rattle.coding.proofs.Places.{coded-bytes}

pub coded_each-bit : (rate : Rate) (n : ℕ) (f : ℕ → ℕ) (m : ℕ) → coded_each rate n f m < 2
unfolding coded_each
coded_each-bit rate n f m = coded-bit _ _ _ _

pub uncoded_each-bit : (rate : Rate) (n : ℕ) (y : ℕ → ℕ) (i : ℕ) → uncoded_each rate n y i < 2
unfolding uncoded_each
uncoded_each-bit rate n y i = uncoded-bit _ _ _ _ _

-- a channel is its frames scrambled one by one, and then coded one by one
pub channel-each : (rate : Rate) (n : ℕ) (f : ℕ → ℕ) (m : ℕ) → 0 < n → coded_each rate n (scrambled_each n f) m ≡ channel rate n f m
unfolding coded_each scrambled_each channel scrambled
channel-each rate n f m hn =
    coded-same (pattern_of rate) n _ _ hn
    (λ i h. ap (λ (k : ℕ). (f (m / coded_length rate n * n + i) + sequence k) % 2) (digits_mod (m / coded_length rate n) h)) (m % coded_length rate n)

-- the way back is each frame decoded, and then unscrambled
pub unchannel-each : (rate : Rate) (n : ℕ) (y : ℕ → ℕ) (i : ℕ) → scrambled_each n (uncoded_each rate n y) i ≡ unchannel rate n y i
unfolding scrambled_each uncoded_each unchannel scrambled
unchannel-each rate n y i = refl

-- the codings of `count` frames depend on these frames alone
pub coded_each-same : (rate : Rate) (n count : ℕ) (f g : ℕ → ℕ) → 0 < n → Agree (count * n) f g → (m : ℕ) → m / coded_length rate n < count
    → coded_each rate n f m ≡ coded_each rate n g m
unfolding coded_each
coded_each-same rate n count f g h e m l = coded-same (pattern_of rate) n _ _ h (λ i j. e _ (digits_lt l j)) (m % coded_length rate n)

code-pos : (rate : Rate) (n : ℕ) → 12 ≤ n → 0 < coded_length rate n
code-pos TwoFifths n h = omega arith
code-pos Half n h = omega arith

-- what `encode` leaves of frames that were scrambled, and what unscrambling leaves of frames that were decoded
module _ (rate : Rate) (n : ℕ) (between : List ℕ) where
  pub both-passes : (count K : ℕ) (f : ℕ → ℕ) (frames out : List ℕ) → Buffers rate n count frames out → K ≡ length frames
      → between ≡ packed K (scrambled_each (8 * n) f)
      → packed (length out) (coded_each rate (8 * n) (bit_at between)) ≡ packed (length out) (channel rate (8 * n) f)
  both-passes count K f frames out b size is =
      packed-cong (length out) _ _
      (λ m h.
      coded_each-same rate (8 * n) count _ _ pos
      (λ i l. ap (λ (x : List ℕ). bit_at x i) is ∙ bit_at-packed K _ (λ j _. scrambled_each-bit (8 * n) f j) i (omega (arith, b.plain, mul_left_comm count 8 n)))
      m (frame-of m h)
      ∙ channel-each rate (8 * n) f m pos)
    where
      pos : 0 < 8 * n
      pos = omega (arith, b.enough)

      frame-of : (m : ℕ) → m < 8 * length out → m / coded_length rate (8 * n) < count
      frame-of m h =
          let c : 0 < coded_length rate (8 * n) = code-pos rate (8 * n) b.enough in
          (div-lt_iff_lt-mul c).1 (omega (arith, b.long, ap (λ (x : ℕ). count * x) (coded-bytes n (group_size rate) b.even), mul_left_comm count 8 (n / 2 * group_size rate)))

  pub unscrambled-each : (K : ℕ) (y : ℕ → ℕ) → between ≡ packed K (uncoded_each rate (8 * n) y)
      → packed K (scrambled_each (8 * n) (bit_at between)) ≡ packed K (unchannel rate (8 * n) y)
  unscrambled-each K y is =
      packed-cong K _ _
      (λ i h.
      scrambled_each-same (8 * n) _ _ i
      (ap (λ (x : List ℕ). bit_at x i) is ∙ bit_at-packed K _ (λ j _. uncoded_each-bit rate (8 * n) y j) i h)
      ∙ unchannel-each rate (8 * n) y i)
