-- What the merged bytes come to: the internal matrix after an L1 frame, and what its steps read. Assumes nothing.
use mathlib.Core.Path.{◌≡◌, refl, sym, ap, ap₂, ◌∙◌}
use mathlib.Core.List.{List}
use mathlib.Core.Bool.{Bool, cond}
use mathlib.Core.Logic.{◌⊎◌, inl, inr}
use Prim.Native.Nat.{ℕ, zero, suc, ◌+◌, ◌-◌, ◌*◌, ◌/◌, ◌%◌, ◌^◌, ◌≤◌, ◌<◌, min}
use native.Mathlib.Decide.{dec_lt, ℕ_discrete}
use native.Mathlib.Omega.{arith}
use lib.Bits.{bit_and, bit_xor, differ, and_shr, xor_shr, and_step, xor_step}
use lib.ListN.{get_or}
use borrow.Author.Tests.{lt-ltb, le-ltb}
use Rattle.bits.specs.Bits.{Bytes, bit_at, packed}
use Rattle.bits.proofs.Numbers.{digit, digit_lt, number-digit}
use Rattle.bits.proofs.Packed.{bit_at-digit, bit_at-packed, packed-of}
use Rattle.interleaving.specs.PX.{partitions, coded_bytes, coded_bits, after, read}
use Rattle.interleaving.specs.FinderPX.{source}
use Rattle.px.specs.Merged.{ahead, near_bit, near_mask, seen_bit, seen_mask, mixed, Merged, Status}
use Rattle.px_steps.proofs.Blocks.{ahead_of}
use Rattle.px_steps.proofs.Residues.{in_frame}
use Rattle.px.proofs.Passing.{cell-new, cell-old, read-new, read-old}
use Rattle.px.proofs.Merging.{seen_bit-lt}

-- ---- a digit of a mixed byte

digit_and : (a b t : ℕ) → digit (bit_and a b) t ≡ min (digit a t) (digit b t)
unfolding digit
digit_and a b t = rw (and_shr a b t) (omega (arith, and_step (a / 2 ^ t) (b / 2 ^ t)))

differ-lt : (x y : ℕ) → x < 2 → y < 2 → differ x y < 2
differ-lt zero y h l = l
differ-lt (suc zero) zero h l = omega arith
differ-lt (suc zero) (suc y) h l = omega arith
differ-lt (suc (suc x)) y h l = absurd (omega arith)

digit-xor : (a b t : ℕ) → digit (bit_xor a b) t ≡ differ (digit a t) (digit b t)
unfolding digit
digit-xor a b t =
    rw (xor_shr a b t)
    (low (bit_xor (a / 2 ^ t) (b / 2 ^ t)) _ _ (xor_step (a / 2 ^ t) (b / 2 ^ t)) (differ-lt (a / 2 ^ t % 2) (b / 2 ^ t % 2) (omega arith) (omega arith)))
  where
    low : (z y d : ℕ) → z ≡ y * 2 + d → d < 2 → z % 2 ≡ d
    low z y d e l = omega arith

take-new : (x a : ℕ) → x < 2 → a < 2 → differ x (min (differ x a) 1) ≡ a
take-new zero zero h l = refl
take-new zero (suc zero) h l = refl
take-new (suc zero) zero h l = refl
take-new (suc zero) (suc zero) h l = refl
take-new zero (suc (suc a)) h l = absurd (omega arith)
take-new (suc zero) (suc (suc a)) h l = absurd (omega arith)
take-new (suc (suc x)) a h l = absurd (omega arith)

take-old : (x a : ℕ) → x < 2 → a < 2 → differ x (min (differ x a) 0) ≡ x
take-old zero zero h l = refl
take-old zero (suc zero) h l = refl
take-old (suc zero) zero h l = refl
take-old (suc zero) (suc zero) h l = refl
take-old zero (suc (suc a)) h l = absurd (omega arith)
take-old (suc zero) (suc (suc a)) h l = absurd (omega arith)
take-old (suc (suc x)) a h l = absurd (omega arith)

module _ (x a m t : ℕ) where
  mixed-digit : digit (mixed x a m) t ≡ differ (digit x t) (min (differ (digit x t) (digit a t)) (digit m t))
  unfolding mixed
  mixed-digit = digit-xor x (bit_and (bit_xor x a) m) t ∙ ap (differ (digit x t)) (digit_and (bit_xor x a) m t ∙ ap (λ (d : ℕ). min d (digit m t)) (digit-xor x a t))

  mixed-new : digit m t ≡ 1 → digit (mixed x a m) t ≡ digit a t
  mixed-new e = mixed-digit ∙ ap (λ (d : ℕ). differ (digit x t) (min (differ (digit x t) (digit a t)) d)) e ∙ take-new (digit x t) (digit a t) (digit_lt x t) (digit_lt a t)

  mixed-old : digit m t ≡ 0 → digit (mixed x a m) t ≡ digit x t
  mixed-old e = mixed-digit ∙ ap (λ (d : ℕ). differ (digit x t) (min (differ (digit x t) (digit a t)) d)) e ∙ take-old (digit x t) (digit a t) (digit_lt x t) (digit_lt a t)

-- ---- the masks

near-lt : (kind t x : ℕ) → near_bit kind t x < 2
unfolding near_bit
near-lt kind t x = omega arith

near-digit : (kind t g u : ℕ) → u < 8 → digit (near_mask kind t g) (7 - u) ≡ near_bit kind t (8 * g + u)
unfolding near_mask
near-digit kind t g u l = number-digit 8 (λ v. near_bit kind t (8 * g + v)) (λ v h. near-lt kind t (8 * g + v)) u l

seen-digit : (kind g u : ℕ) → u < 8 → digit (seen_mask kind g) (7 - u) ≡ seen_bit kind (8 * g + u)
unfolding seen_mask
seen-digit kind g u l = number-digit 8 (λ v. seen_bit kind (8 * g + v)) (λ v h. seen_bit-lt kind (8 * g + v)) u l

near-is : (kind t x : ℕ) → near_bit kind t x ≡ 1 - (t + (32 - ahead_of kind x)) % 32 / 16
unfolding near_bit ahead
near-is kind t x = refl

seen-is : (kind x : ℕ) → (seen_bit kind x ≡ 1 → source kind (1152 * partitions kind * 15 + x) ≤ 1152 * partitions kind * 15 + x)
    × (seen_bit kind x ≡ 0 → 1152 * partitions kind * 15 + x < source kind (1152 * partitions kind * 15 + x))
unfolding seen_bit
seen-is kind x =
    let i : ℕ = 1152 * partitions kind * 15 + x in
    elim (dec_lt i (source kind i)) [
      | yes l ↦ (λ e. let d : ◌≡◌ {A = ℕ} 0 1 = sym (ap (λ (b : Bool). cond b 0 1) (lt-ltb i (source kind i) l)) ∙ e in absurd (omega arith), λ e. l)
      | no f ↦ (λ e. omega arith, λ e. let d : ◌≡◌ {A = ℕ} 1 0 = sym (ap (λ (b : Bool). cond b 0 1) (le-ltb i (source kind i) (omega arith))) ∙ e in absurd (omega arith))
    ]

-- ---- the places of the bits

bit-sums : (kind half t g u : ℕ) → kind < 2
    → (8 * (half * coded_bytes kind + (144 * partitions kind * t + g)) + u ≡ 1152 * partitions kind * (16 * half + t) + (8 * g + u))
    × (8 * (144 * partitions kind * t + g) + u ≡ 1152 * partitions kind * t + (8 * g + u))
unfolding partitions coded_bytes
bit-sums zero half t g u h = (omega arith, omega arith)
bit-sums (suc zero) half t g u h = (omega arith, omega arith)
bit-sums (suc (suc kind)) half t g u h = absurd (omega arith)

-- which half takes the bit
own-half : (half t s : ℕ) → half < 2 → t < 16 → (t + (32 - s)) % 32 / 16 ≡ 0 → ((16 * half + t + (32 - s)) % 32 / 16 ≡ half) × ((16 * (1 - half) + t + (32 - s)) % 32 / 16 ≡ half → ⊥)
own-half half t s hh ht e = (omega arith, λ d. omega arith)

other_half : (half t s : ℕ) → half < 2 → t < 16 → (t + (32 - s)) % 32 / 16 ≡ 1 → ((16 * half + t + (32 - s)) % 32 / 16 ≡ half → ⊥) × ((16 * (1 - half) + t + (32 - s)) % 32 / 16 ≡ half)
other_half half t s hh ht e = (λ d. omega arith, omega arith)

near-or : (kind t x : ℕ) → ((near_bit kind t x ≡ 1) × ((t + (32 - ahead_of kind x)) % 32 / 16 ≡ 0)) ⊎ ((near_bit kind t x ≡ 0) × ((t + (32 - ahead_of kind x)) % 32 / 16 ≡ 1))
near-or kind t x = go ((t + (32 - ahead_of kind x)) % 32 / 16) (omega arith) (near-is kind t x)
  where
    go : (q : ℕ) → q < 2 → near_bit kind t x ≡ 1 - q → ((near_bit kind t x ≡ 1) × (q ≡ 0)) ⊎ ((near_bit kind t x ≡ 0) × (q ≡ 1))
    go zero l e = inl (e, refl)
    go (suc zero) l e = inr (e, refl)
    go (suc (suc q)) l e = absurd (omega arith)

module _ (kind half : ℕ) (memory px m p : List ℕ) (f : ℕ → ℕ) (hk : kind < 2) (hh : half < 2) (f_lt : (i : ℕ) → f i < 2)
    (p-is : p ≡ packed (coded_bytes kind) (λ i. f (source kind i % coded_bits kind)))
    (st : Status kind half memory px m p (16 * (144 * partitions kind))) where
  module _ (t g u : ℕ) (ht : t < 16) (hg : g < 144 * partitions kind) (hu : u < 8) where
    abbrev W : ℕ
    W = 1152 * partitions kind

    abbrev x : ℕ
    x = 8 * g + u

    abbrev j : ℕ
    j = 144 * partitions kind * t + g

    x_lt : x < W
    x_lt = omega arith

    was : Merged kind memory px m p half t g
    was = st.done t g ht hg (omega arith)

    -- the coded bit, and what stood there
    coded-bit : digit (get_or p j 0) (7 - u) ≡ f (source kind (W * t + x) % coded_bits kind)
    coded-bit =
        sym (bit_at-digit p j u hu)
        ∙ ap (λ (l : List ℕ). bit_at l (8 * j + u)) p-is
        ∙ bit_at-packed (coded_bytes kind) (λ i. f (source kind i % coded_bits kind)) (λ i l. f_lt (source kind i % coded_bits kind)) (8 * j + u) (in_frame kind t g u hk ht hg hu).1
        ∙ ap (λ (i : ℕ). f (source kind i % coded_bits kind)) (bit-sums kind half t g u hk).1

    old_bit : (h : ℕ) → digit (get_or m (h * coded_bytes kind + j) 0) (7 - u) ≡ bit_at m (W * (16 * h + t) + x)
    old_bit h = sym (bit_at-digit m (h * coded_bytes kind + j) u hu) ∙ ap (bit_at m) (bit-sums kind h t g u hk).0

    mask : digit (near_mask kind t g) (7 - u) ≡ near_bit kind t x
    mask = near-digit kind t g u hu

    own-bit : bit_at memory (8 * (half * coded_bytes kind + j) + u) ≡ after kind half f (bit_at m) (coded_bits kind) (W * (16 * half + t) + x)
    own-bit =
        bit_at-digit memory (half * coded_bytes kind + j) u hu ∙ ap (λ (z : ℕ). digit z (7 - u)) was.own
        ∙ elim (near-or kind t x) [
          | inl n ↦
              mixed-new _ _ _ (7 - u) (mask ∙ n.0) ∙ coded-bit
              ∙ sym (cell-new kind half x f (bit_at m) hk hh x_lt (16 * half + t) t (omega arith) ht (omega arith) (own-half half t (ahead_of kind x) hh ht n.1).0)
          | inr n ↦
              mixed-old _ _ _ (7 - u) (mask ∙ n.0) ∙ old_bit half
              ∙ sym (cell-old kind half x f (bit_at m) hk hh x_lt (16 * half + t) (omega arith) (other_half half t (ahead_of kind x) hh ht n.1).0)
        ]

    other-bit : bit_at memory (8 * ((1 - half) * coded_bytes kind + j) + u) ≡ after kind half f (bit_at m) (coded_bits kind) (W * (16 * (1 - half) + t) + x)
    other-bit =
        bit_at-digit memory ((1 - half) * coded_bytes kind + j) u hu ∙ ap (λ (z : ℕ). digit z (7 - u)) was.other
        ∙ elim (near-or kind t x) [
          | inl n ↦
              mixed-new _ _ _ (7 - u) (mask ∙ n.0) ∙ old_bit (1 - half)
              ∙ sym (cell-old kind half x f (bit_at m) hk hh x_lt (16 * (1 - half) + t) (omega arith) (own-half half t (ahead_of kind x) hh ht n.1).1)
          | inr n ↦
              mixed-old _ _ _ (7 - u) (mask ∙ n.0) ∙ coded-bit
              ∙ sym (cell-new kind half x f (bit_at m) hk hh x_lt (16 * (1 - half) + t) t (omega arith) ht (omega arith) (other_half half t (ahead_of kind x) hh ht n.1).1)
        ]

    seen : digit (bit_and (near_mask kind t g) (seen_mask kind g)) (7 - u) ≡ min (near_bit kind t x) (seen_bit kind x)
    seen = digit_and (near_mask kind t g) (seen_mask kind g) (7 - u) ∙ ap₂ min mask (seen-digit kind g u hu)

    shown-bit : bit_at px (8 * j + u) ≡ read kind half f (bit_at m) (W * t + x)
    shown-bit =
        bit_at-digit px j u hu ∙ ap (λ (z : ℕ). digit z (7 - u)) was.shown
        ∙ elim (near-or kind t x) [
          | inl n ↦
              elim (ℕ_discrete (seen_bit kind x) 1) [
                | yes y ↦
                    mixed-new _ _ _ (7 - u) (seen ∙ ap₂ min n.0 y) ∙ coded-bit
                    ∙ sym (read-new kind half x f (bit_at m) hk hh x_lt t ht (own-half half t (ahead_of kind x) hh ht n.1).0 ((seen-is kind x).0 y))
                | no d ↦
                    let z : seen_bit kind x ≡ 0 = omega (arith, seen_bit-lt kind x) in
                    mixed-old _ _ _ (7 - u) (seen ∙ ap₂ min n.0 z) ∙ old_bit half
                    ∙ sym (read-old kind half x f (bit_at m) hk hh x_lt t ht (λ e. (seen-is kind x).1 z))
              ]
          | inr n ↦
              let z : min (near_bit kind t x) (seen_bit kind x) ≡ 0 = omega (arith, n.0) in
              mixed-old _ _ _ (7 - u) (seen ∙ z) ∙ old_bit half
              ∙ sym (read-old kind half x f (bit_at m) hk hh x_lt t ht (λ e. absurd ((other_half half t (ahead_of kind x) hh ht n.1).0 e)))
        ]

split-bit : (kind i : ℕ) → kind < 2 → i < 16 * coded_bytes kind
    → (i ≡ 8 * (i / coded_bits kind * coded_bytes kind + (144 * partitions kind * (i % coded_bits kind / (1152 * partitions kind)) + i % (1152 * partitions kind) / 8)) + i % 8)
    × (i / coded_bits kind < 2) × (i % coded_bits kind / (1152 * partitions kind) < 16) × (i % (1152 * partitions kind) / 8 < 144 * partitions kind)
unfolding partitions coded_bytes
split-bit zero i h l = (omega arith, omega arith, omega arith, omega arith)
split-bit (suc zero) i h l = (omega arith, omega arith, omega arith, omega arith)
split-bit (suc (suc kind)) i h l = absurd (omega arith)

split-frame : (kind i : ℕ) → kind < 2 → i < 8 * coded_bytes kind
    → (i ≡ 8 * (144 * partitions kind * (i / (1152 * partitions kind)) + i % (1152 * partitions kind) / 8) + i % 8)
    × (i / (1152 * partitions kind) < 16) × (i % (1152 * partitions kind) / 8 < 144 * partitions kind)
unfolding partitions coded_bytes
split-frame zero i h l = (omega arith, omega arith, omega arith)
split-frame (suc zero) i h l = (omega arith, omega arith, omega arith)
split-frame (suc (suc kind)) i h l = absurd (omega arith)

module _ (kind half : ℕ) (memory px m p : List ℕ) (f : ℕ → ℕ) (hk : kind < 2) (hh : half < 2) (f_lt : (i : ℕ) → f i < 2)
    (p-is : p ≡ packed (coded_bytes kind) (λ i. f (source kind i % coded_bits kind)))
    (st : Status kind half memory px m p (16 * (144 * partitions kind))) where
  memory-bit : (h t g u : ℕ) → h < 2 → t < 16 → g < 144 * partitions kind → u < 8
      → bit_at memory (8 * (h * coded_bytes kind + (144 * partitions kind * t + g)) + u)
      ≡ after kind half f (bit_at m) (coded_bits kind) (8 * (h * coded_bytes kind + (144 * partitions kind * t + g)) + u)
  memory-bit h t g u lh ht hg hu =
      elim (ℕ_discrete h half) [
        | yes e ↦
            rw e (own-bit kind half memory px m p f hk hh f_lt p-is st t g u ht hg hu
            ∙ ap (after kind half f (bit_at m) (coded_bits kind)) (sym (bit-sums kind half t g u hk).0))
        | no d ↦
            let e : h ≡ 1 - half = omega arith in
            rw e (other-bit kind half memory px m p f hk hh f_lt p-is st t g u ht hg hu
            ∙ ap (after kind half f (bit_at m) (coded_bits kind)) (sym (bit-sums kind (1 - half) t g u hk).0))
      ]

  pub memory-is : Bytes memory → memory ≡ packed (2 * coded_bytes kind) (after kind half f (bit_at m) (coded_bits kind))
  memory-is bytes =
      packed-of (2 * coded_bytes kind) memory _ st.long bytes
      (λ i l.
      let at = split-bit kind i hk (omega arith) in
      rw (sym at.0) at (memory-bit _ _ _ (i % 8) at.1 at.2 at.3 (omega arith)))

  pub px-is : Bytes px → px ≡ packed (coded_bytes kind) (read kind half f (bit_at m))
  px-is bytes =
      packed-of (coded_bytes kind) px _ st.wide bytes
      (λ i l.
      let at = split-frame kind i hk l in
      rw (sym at.0) at
      (shown-bit kind half memory px m p f hk hh f_lt p-is st _ _ (i % 8) at.1 at.2 (omega arith)
      ∙ ap (read kind half f (bit_at m)) (sym (bit-sums kind half (i / (1152 * partitions kind)) (i % (1152 * partitions kind) / 8) (i % 8) hk).1)))
