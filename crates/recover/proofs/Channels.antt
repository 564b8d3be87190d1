-- A channel's transfer frames and its bad frames are read from the coded bits alone. Assumes nothing.
use mathlib.Core.Path.{◌≡◌, sym, ap, ◌∙◌}
use mathlib.Core.List.{List}
use Prim.Native.Nat.{ℕ, ◌*◌, ◌/◌, ◌<◌}
use native.Mathlib.Nat.{mul_assoc, mul_left_comm}
use native.Mathlib.Omega.{arith}
use lib.ListN.{length}
use Rattle.bits.specs.Bits.{bit_at, packed}
use Rattle.bits.specs.Tests.{lowest}
use Rattle.bits.proofs.Tests.{lowest-cong}
use Rattle.bits.proofs.Packed.{bit_at-packed, length-packed, packed-cong}
use Rattle.coding.specs.declared.Rate.{Rate}
use Rattle.scrambling.specs.Scrambler.{scrambled_each}
use Rattle.coding.specs.Buffers.{Buffers, Long, uncoded_each}
use Rattle.coding.specs.Rates.{coded_length, pattern_of}
use Rattle.coding.specs.Channel.{Agree, no_frame, unchannel}
use Rattle.coding.proofs.Channel.{no-frame-same, unchannel-same}
use Rattle.coding.proofs.Passes.{unchannel-each, uncoded_each-bit}

-- packed bytes are as many as they are
pub whole : (l : List ℕ) (m : ℕ) (y : ℕ → ℕ) → l ≡ packed m y → l ≡ packed (length l) y
whole l m y e = e ∙ ap (λ (k : ℕ). packed k y) (sym (ap length e ∙ length-packed m y))

module _ {rate : Rate} {n count : ℕ} {frames coded : List ℕ} (b : Buffers rate n count frames coded)
    (y : ℕ → ℕ) (bits : (i : ℕ) → y i < 2) (e : coded ≡ packed (length coded) y) where
  long : Long (8 * n)
  long = record { enough = b.enough; even = omega arith }

  -- as many coded bits as the frames have
  all-bits : count * coded_length rate (8 * n) ≡ 8 * length coded
  all-bits =
      let l : ℕ = length (pattern_of rate) in
      let h : 8 * n / 2 ≡ 8 * (n / 2) = omega (arith, b.even) in
      ap (λ (x : ℕ). count * (x * l)) h
      ∙ ap (λ (x : ℕ). count * x) (mul_assoc 8 (n / 2) l)
      ∙ mul_left_comm count 8 (n / 2 * l)
      ∙ ap (λ (x : ℕ). 8 * x) (sym b.long)

  bits_are : Agree (count * coded_length rate (8 * n)) (bit_at coded) y
  bits_are i h = ap (λ (x : List ℕ). bit_at x i) e ∙ bit_at-packed (length coded) y (λ j _. bits j) i (omega (arith, all-bits))

  -- scrambling one by one hides nothing
  uncoded-are : (i : ℕ) → i < count * (8 * n) → uncoded_each rate (8 * n) (bit_at coded) i ≡ uncoded_each rate (8 * n) y i
  unfolding scrambled_each
  uncoded-are i h =
      let u = uncoded_each-bit rate (8 * n) (bit_at coded) i in
      let v = uncoded_each-bit rate (8 * n) y i in
      let e = unchannel-each rate (8 * n) (bit_at coded) i ∙ unchannel-same rate (8 * n) long (bit_at coded) y count bits_are i h ∙ sym (unchannel-each rate (8 * n) y i) in
      omega arith

  -- what was judged, still scrambled
  pub judged : (r : ℕ) (out : List ℕ) → r ≡ lowest count (no_frame rate (8 * n) (bit_at coded))
      → out ≡ packed (length frames) (uncoded_each rate (8 * n) (bit_at coded))
      → (r ≡ lowest count (no_frame rate (8 * n) y)) × (out ≡ packed (length frames) (uncoded_each rate (8 * n) y))
  judged r out p q = (
    p ∙ lowest-cong count _ _ (λ k h. no-frame-same rate (8 * n) long (bit_at coded) y count bits_are k h),
    q ∙ packed-cong (length frames) _ _ (λ i h. uncoded-are i (omega (arith, b.plain, mul_left_comm count 8 n))),
  )

  -- what was judged and found from the coded bytes
  pub recovered : (r : ℕ) (out : List ℕ) → r ≡ lowest count (no_frame rate (8 * n) (bit_at coded))
      → out ≡ packed (length frames) (unchannel rate (8 * n) (bit_at coded))
      → (r ≡ lowest count (no_frame rate (8 * n) y)) × (out ≡ packed (length frames) (unchannel rate (8 * n) y))
  recovered r out p q = (
    p ∙ lowest-cong count _ _ (λ k h. no-frame-same rate (8 * n) long (bit_at coded) y count bits_are k h),
    q
        ∙ packed-cong (length frames) _ _
        (λ i h. unchannel-same rate (8 * n) long (bit_at coded) y count bits_are i (omega (arith, b.plain, mul_left_comm count 8 n))),
  )
