-- The coded bits of a unit, by masks over windows of eight bits, are those of the coder. Assumes nothing.
use mathlib.Core.Path.{◌≡◌, sym, ap, ap₂, ◌∙◌}
use Prim.Native.Nat.{ℕ, zero, suc, ◌+◌, ◌-◌, ◌*◌, ◌/◌, ◌%◌, ◌^◌, ◌<◌, ◌≤◌}
use native.Mathlib.Nat.{mod-lt, div-lt_iff_lt-mul}
use native.Mathlib.Omega.{arith}
use lib.Arith.{digits_div, digits_mod}
use lib.Dec.{lit<, lit≤}
use lib.ListN.{get_or}
use Rattle.bits.specs.Bits.{number}
use Rattle.coding.specs.declared.Rate.{Rate}
use Rattle.coding.specs.declared.Rate.TheVariants.{TwoFifths, Half}
use Rattle.coding.specs.Coder.{back, tapped, output, kept, coded}
use Rattle.coding.specs.Rates.{pattern_of}
use Rattle.coding.specs.Channel.{part}
use Rattle.coding.specs.Buffers.{coded_each}
use Rattle.coding.specs.Units.{group_size, masks_of, masked, unit_coded, around}
use Rattle.coding.proofs.Coder.{tapped-same}
use Rattle.coding.proofs.Slices.{number-shifted}
use Rattle.coding.proofs.Windows.{dots, mask-dots, digit_low}
use Rattle.coding.proofs.Turns.{back-shift}
use Rattle.coding.proofs.Places as places

-- the mask of coded bit k of two bits has a digit for each tap of its generator, from the bit that it is the output for on
record Mask (rate : Rate) (k : ℕ) : Type 0 where
  low : (kept (pattern_of rate) k).0 ≤ 1
  small : get_or (masks_of rate) k 0 < 2 ^ 8
  right : (x : ℕ → ℕ) → dots 8 0 (get_or (masks_of rate) k 0) x
      ≡ tapped (kept (pattern_of rate) k).1 (λ d. x (d + (1 - (kept (pattern_of rate) k).0)))

mask-right : (rate : Rate) (k : ℕ) → k < group_size rate → Mask rate k
mask-right TwoFifths zero h = record { low = lit≤ tt; small = lit< tt; right = λ x. omega arith }
mask-right TwoFifths (suc zero) h = record { low = lit≤ tt; small = lit< tt; right = λ x. omega arith }
mask-right TwoFifths (suc (suc zero)) h = record { low = lit≤ tt; small = lit< tt; right = λ x. omega arith }
mask-right TwoFifths (suc (suc (suc zero))) h = record { low = lit≤ tt; small = lit< tt; right = λ x. omega arith }
mask-right TwoFifths (suc (suc (suc (suc zero)))) h = record { low = lit≤ tt; small = lit< tt; right = λ x. omega arith }
mask-right TwoFifths (suc (suc (suc (suc (suc k))))) h = absurd (omega arith)
mask-right Half zero h = record { low = lit≤ tt; small = lit< tt; right = λ x. omega arith }
mask-right Half (suc zero) h = record { low = lit≤ tt; small = lit< tt; right = λ x. omega arith }
mask-right Half (suc (suc zero)) h = record { low = lit≤ tt; small = lit< tt; right = λ x. omega arith }
mask-right Half (suc (suc (suc zero))) h = record { low = lit≤ tt; small = lit< tt; right = λ x. omega arith }
mask-right Half (suc (suc (suc (suc k)))) h = absurd (omega arith)

pub size-pos : (rate : Rate) → 0 < group_size rate
size-pos TwoFifths = lit< tt
size-pos Half = lit< tt

-- a window that ends with bits 2 g and 2 g + 1 of a frame gives group g of its coding
group-coded : (rate : Rate) (N : ℕ) (s : ℕ → ℕ) (g k w : ℕ) → k < group_size rate
    → ((e : ℕ) → e < 8 → w / 2 ^ e % 2 ≡ s (back N (2 * g + 1) e)) → masked rate w k ≡ coded (pattern_of rate) N s (g * group_size rate + k)
unfolding coded output masked
group-coded rate N s g k w h v =
    let m = mask-right rate k h in
    let c : ℕ = (kept (pattern_of rate) k).0 in
    let low : c ≤ 1 = m.low in
    let t : ℕ → ℕ = λ e. s (back N (2 * g + 1) e) in
    rw (digits_div g h, digits_mod g h)
    (ap (λ (n : ℕ). n % 2)
    (mask-dots 8 w (get_or (masks_of rate) k 0) t m.small v
    ∙ m.right t
    ∙ tapped-same (kept (pattern_of rate) k).1 (λ d. t (d + (1 - c))) (λ d. s (back N (2 * g + c) d))
    (λ d l.
    let e : 2 * g + 1 ≡ 2 * g + c + (1 - c) = omega arith in
    ap s (ap (λ (j : ℕ). back N j (d + (1 - c))) e ∙ back-shift N (2 * g + c) d (1 - c)))))

module _ (rate : Rate) (n u : ℕ) (f : ℕ → ℕ) (long : 12 ≤ 8 * n) (even : n % 2 ≡ 0) (d : (i : ℕ) → f i < 2) where
  -- digit e of window q of a unit
  window : (q e : ℕ) → q < 8 → e < 8
      → number 24 (around n (2 * u) 1 f) / 2 ^ (14 - 2 * q) % 256 / 2 ^ e % 2
      ≡ part (8 * n) (u / (n / 2)) f (back (8 * n) (2 * (8 * (u % (n / 2)) + q) + 1) e)
  unfolding around
  window q e hq he =
      let v : ℕ = u % (n / 2) in
      let a : 8 * (2 * v) + (24 - 1 - (14 - 2 * q + e)) ≡ 2 * (8 * v + q) + 1 + (8 - e) = omega arith in
      let b : 8 ≡ e + (8 - e) = omega arith in
      digit_low _ e he
      ∙ number-shifted (around n (2 * u) 1 f) (λ i. d _) 24 (14 - 2 * q) e (omega arith)
      ∙ ap₂ (λ (k r : ℕ). part (8 * n) k f (back (8 * n) (8 * r + (24 - 1 - (14 - 2 * q + e))) 8))
      (places.frame_byte n u long even) (places.unit-byte n u long even)
      ∙ ap (part (8 * n) (u / (n / 2)) f) (ap₂ (back (8 * n)) a b ∙ back-shift (8 * n) (2 * (8 * v + q) + 1) e (8 - e))

  pub unit-coded : (i : ℕ) → i < 8 * group_size rate
      → unit_coded rate (number 24 (around n (2 * u) 1 f)) i ≡ coded_each rate (8 * n) f (8 * (group_size rate * u) + i)
  unfolding unit_coded coded_each
  unit-coded i h =
      let l : ℕ = group_size rate in
      let q : i / l < 8 = (div-lt_iff_lt-mul (size-pos rate)).1 h in
      group-coded rate (8 * n) (part (8 * n) (u / (n / 2)) f) (8 * (u % (n / 2)) + i / l) (i % l) _ (mod-lt i (size-pos rate)) (λ e. window (i / l) e q)
      ∙ ap₂ (λ (k m : ℕ). coded (pattern_of rate) (8 * n) (part (8 * n) k f) m)
      (sym (places.frame-coded-bit n u long even l (size-pos rate) i h)) (sym (places.unit-coded-bit n u long even l (size-pos rate) i h))
