-- What a single 1 adds to a unit's word: the numbers in the code are those of the masks, by a computed test for each rate and direction. Assumes nothing.
use mathlib.Core.Path.{◌≡◌, sym, ap₂, ◌∙◌}
use mathlib.Core.Bool.{true, false}
use Prim.Native.Nat.{ℕ, ◌+◌, ◌*◌, ◌/◌, ◌%◌, ◌^◌, ◌<◌}
use native.Mathlib.Omega.{arith}
use lib.Count.{ones}
use lib.Dec.{eqb, eqb→eq}
use lib.ListN.{get_or}
use Rattle.bits.specs.Bits.{number}
use Rattle.bits.specs.Tests.{all}
use Rattle.bits.proofs.Tests.{all-at}
use Rattle.coding.specs.declared.Rate.TheVariants.{TwoFifths, Half}
use Rattle.coding.specs.Units.{masked, unit_coded, unit_bit, word_of, placed, seeds_of}

abbrev coded-one-25-at : ℕ → ℕ
coded-one-25-at e = get_or (seeds_of TwoFifths false) (e % 2) 0 * 2 ^ (e / 2 * 5) % 2 ^ 64

pub coded-one-25 : (k e : ℕ) → k < 3 → e < 8 → placed TwoFifths false k (coded-one-25-at e) ≡ word_of TwoFifths false (2 ^ (8 * k + e))
unfolding all number unit_coded masked ones placed word_of
coded-one-25 k e l h =
    let q : (8 * k + e) / 8 ≡ k = omega arith in
    let r : (8 * k + e) % 8 ≡ e = omega arith in
    ap₂ (λ (i j : ℕ). placed TwoFifths false i (coded-one-25-at j)) (sym q) (sym r)
    ∙ eqb→eq _ _ (all-at 24 (λ m. eqb (placed TwoFifths false (m / 8) (coded-one-25-at (m % 8))) (word_of TwoFifths false (2 ^ m))) tt (8 * k + e) (omega arith))

abbrev coded-one-12-at : ℕ → ℕ
coded-one-12-at e = get_or (seeds_of Half false) (e % 2) 0 * 2 ^ (e / 2 * 4) % 2 ^ 64

pub coded-one-12 : (k e : ℕ) → k < 3 → e < 8 → placed Half false k (coded-one-12-at e) ≡ word_of Half false (2 ^ (8 * k + e))
unfolding all number unit_coded masked ones placed word_of
coded-one-12 k e l h =
    let q : (8 * k + e) / 8 ≡ k = omega arith in
    let r : (8 * k + e) % 8 ≡ e = omega arith in
    ap₂ (λ (i j : ℕ). placed Half false i (coded-one-12-at j)) (sym q) (sym r)
    ∙ eqb→eq _ _ (all-at 24 (λ m. eqb (placed Half false (m / 8) (coded-one-12-at (m % 8))) (word_of Half false (2 ^ m))) tt (8 * k + e) (omega arith))

abbrev bits-one-25-at : ℕ → ℕ
bits-one-25-at e = get_or (seeds_of TwoFifths true) e 0

pub bits-one-25 : (k e : ℕ) → k < 7 → e < 8 → placed TwoFifths true k (bits-one-25-at e) ≡ word_of TwoFifths true (2 ^ (8 * k + e))
unfolding all number unit_bit masked ones placed word_of
bits-one-25 k e l h =
    let q : (8 * k + e) / 8 ≡ k = omega arith in
    let r : (8 * k + e) % 8 ≡ e = omega arith in
    ap₂ (λ (i j : ℕ). placed TwoFifths true i (bits-one-25-at j)) (sym q) (sym r)
    ∙ eqb→eq _ _ (all-at 56 (λ m. eqb (placed TwoFifths true (m / 8) (bits-one-25-at (m % 8))) (word_of TwoFifths true (2 ^ m))) tt (8 * k + e) (omega arith))

abbrev bits-one-12-at : ℕ → ℕ
bits-one-12-at e = get_or (seeds_of Half true) e 0

pub bits-one-12 : (k e : ℕ) → k < 7 → e < 8 → placed Half true k (bits-one-12-at e) ≡ word_of Half true (2 ^ (8 * k + e))
unfolding all number unit_bit masked ones placed word_of
bits-one-12 k e l h =
    let q : (8 * k + e) / 8 ≡ k = omega arith in
    let r : (8 * k + e) % 8 ≡ e = omega arith in
    ap₂ (λ (i j : ℕ). placed Half true i (bits-one-12-at j)) (sym q) (sym r)
    ∙ eqb→eq _ _ (all-at 56 (λ m. eqb (placed Half true (m / 8) (bits-one-12-at (m % 8))) (word_of Half true (2 ^ m))) tt (8 * k + e) (omega arith))
