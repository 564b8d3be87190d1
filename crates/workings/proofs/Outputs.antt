-- The outputs of the coder by number: the bit and the generator of each coded bit. Assumes nothing.
use mathlib.Core.Path.{◌≡◌, refl, ap}
use mathlib.Core.List.{List, [], ◌∷◌}
use Prim.Native.Nat.{ℕ, zero, suc, ◌+◌, ◌*◌, ◌/◌, ◌%◌, ◌≤◌, ◌<◌}
use native.Mathlib.Omega.{arith}
use lib.ListN.{get_or}
use Rattle.coding.specs.declared.Rate.{Rate}
use Rattle.coding.specs.declared.Rate.TheVariants.{TwoFifths, Half}
use Rattle.coding.specs.Coder.{kept, rate25, rate12}
use Rattle.coding.specs.Rates.{coded_length}
use Rattle.workings.specs.Shown.{generator_of, number_of}

-- the generators of the coded bits of two bits of a frame, in a table
abbrev pub table25 : List ℕ
table25 = 0o133 ∷ 0o171 ∷ 0o165 ∷ 0o133 ∷ 0o171 ∷ []

abbrev pub table12 : List ℕ
table12 = 0o133 ∷ 0o165 ∷ 0o133 ∷ 0o165 ∷ []

kept25 : (k : ℕ) → k < 5 → (k / 3 ≡ (kept rate25 k).0) × (get_or table25 k 0 ≡ (kept rate25 k).1) × (get_or table25 k 0 < 128)
kept25 zero h = (refl, refl, omega arith)
kept25 (suc zero) h = (refl, refl, omega arith)
kept25 (suc (suc zero)) h = (refl, refl, omega arith)
kept25 (suc (suc (suc zero))) h = (refl, refl, omega arith)
kept25 (suc (suc (suc (suc zero)))) h = (refl, refl, omega arith)
kept25 (suc (suc (suc (suc (suc k))))) h = absurd (omega arith)

kept12 : (k : ℕ) → k < 4 → (k / 2 ≡ (kept rate12 k).0) × (get_or table12 k 0 ≡ (kept rate12 k).1) × (get_or table12 k 0 < 128)
kept12 zero h = (refl, refl, omega arith)
kept12 (suc zero) h = (refl, refl, omega arith)
kept12 (suc (suc zero)) h = (refl, refl, omega arith)
kept12 (suc (suc (suc zero))) h = (refl, refl, omega arith)
kept12 (suc (suc (suc (suc k)))) h = absurd (omega arith)

module _ (m : ℕ) where
  pub two-fifths : (2 * (m / 5) + m % 5 / 3 ≡ number_of TwoFifths m) × (get_or table25 (m % 5) 0 ≡ generator_of TwoFifths m) × (get_or table25 (m % 5) 0 < 128)
  two-fifths =
      let k = kept25 (m % 5) (omega arith) in
      (ap (λ (x : ℕ). 2 * (m / 5) + x) k.0, k.1, k.2)

  pub half : (2 * (m / 4) + m % 4 / 2 ≡ number_of Half m) × (get_or table12 (m % 4) 0 ≡ generator_of Half m) × (get_or table12 (m % 4) 0 < 128)
  half =
      let k = kept12 (m % 4) (omega arith) in
      (ap (λ (x : ℕ). 2 * (m / 4) + x) k.0, k.1, k.2)

-- a coded bit is an output for a bit of its frame
pub number_lt : (rate : Rate) (n m : ℕ) → n % 2 ≡ 0 → m < coded_length rate n → number_of rate m < n
number_lt TwoFifths n m e l = omega (arith, (two-fifths m).0)
number_lt Half n m e l = omega (arith, (half m).0)

pub coded-few : (rate : Rate) (n m : ℕ) → n ≤ 146176 → m < coded_length rate n → m < 365440
coded-few TwoFifths n m h l = omega arith
coded-few Half n m h l = omega arith
