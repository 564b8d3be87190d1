-- A reserved number at the front of a buffer, as a sender's input has it: the first byte of a sum is the sum of the numbers. Assumes nothing.
use Prim.Native.Nat.{ℕ, zero, suc, ◌+◌, ◌*◌, ◌/◌, ◌%◌, ◌<◌}
use mathlib.Core.Path.{◌≡◌, refl, sym, ap, ◌∙◌}
use mathlib.Core.List.{List}
use native.Mathlib.Omega.{arith}
use lib.ListN.{length, get_or}
use Rattle.bits.specs.Bits.{bit_at, number}
use Rattle.bits.proofs.Numbers.{number-cong}
use Rattle.bits.proofs.Stores.{byte-number}
use Rattle.runs.specs.Chain.{Buffer}
use Rattle.runs.specs.Runs.{Every}
use Rattle.summing.specs.Sums.{sum_of, sum_number}
use Rattle.summing.proofs.Sums.{Sum, sum-zero}
use Rattle.summing.proofs.Buffers.{bits-sum, bytes-sum, every-all, every_map, sum-cong}

-- the bits of a number up to 7
low_bits : (b : Buffer) → get_or b 0 0 < 8 → (k : ℕ) → k < 5 → bit_at b k ≡ 0
unfolding bit_at
low_bits b h zero l = omega arith
low_bits b h (suc zero) l = omega arith
low_bits b h (suc (suc zero)) l = omega arith
low_bits b h (suc (suc (suc zero))) l = omega arith
low_bits b h (suc (suc (suc (suc zero)))) l = omega arith
low_bits b h (suc (suc (suc (suc (suc k))))) l = absurd (omega arith)

bit-5 : (b : Buffer) → get_or b 0 0 / 4 % 2 ≡ bit_at b 5
unfolding bit_at
bit-5 b = refl

bit-6 : (b : Buffer) → get_or b 0 0 / 2 % 2 ≡ bit_at b 6
unfolding bit_at
bit-6 b = refl

bit-7 : (b : Buffer) → get_or b 0 0 % 2 ≡ bit_at b 7
unfolding bit_at
bit-7 b = omega arith

of-bits : (f : ℕ → ℕ) → ((k : ℕ) → k < 5 → f k ≡ 0) → number 8 f ≡ 4 * f 5 + 2 * f 6 + f 7
unfolding number
of-bits f z = omega (arith, z 0 (omega arith), z 1 (omega arith), z 2 (omega arith), z 3 (omega arith), z 4 (omega arith))

module _ {R : Type 0} (rs : List R) (odd : length rs % 2 ≡ 1) (x : R → Buffer) (n : ℕ) (each : Every (λ (r : R). length (x r) ≡ n) rs) (low : Every (λ (r : R). get_or (x r) 0 0 < 8) rs) where
  high_zero : (k : ℕ) → k < 5 → bit_at (sum_of rs x) k ≡ 0
  high_zero k h = bits-sum rs odd x n each k ∙ sym (sum-cong rs (λ r. bit_at (x r) k) (λ r. 0) 0 0 (every_map (λ r l. low_bits (x r) l k h) rs low) (omega arith) (sum-zero rs))

  -- bit k of the first bytes, which is y of each
  low_sum : (k : ℕ) (y : R → ℕ) → ((r : R) → y r ≡ bit_at (x r) k) → Sum rs y (bit_at (sum_of rs x) k)
  low_sum k y same = sum-cong rs y (λ r. bit_at (x r) k) _ _ (every-all same rs) refl (bits-sum rs odd x n each k)

  low_sums : 4 * bit_at (sum_of rs x) 5 + 2 * bit_at (sum_of rs x) 6 + bit_at (sum_of rs x) 7 ≡ sum_number rs (λ r. get_or (x r) 0 0)
  unfolding sum_number
  low_sums = omega (arith, low_sum 5 _ (λ r. bit-5 (x r)), low_sum 6 _ (λ r. bit-6 (x r)), low_sum 7 _ (λ r. bit-7 (x r)))

  pub number-sum : get_or (sum_of rs x) 0 0 ≡ sum_number rs (λ r. get_or (x r) 0 0)
  number-sum =
      sym (byte-number (sum_of rs x) 0 (bytes-sum rs odd x 0))
      ∙ number-cong 8 _ (bit_at (sum_of rs x)) (λ k _. ap (bit_at (sum_of rs x)) (omega arith))
      ∙ of-bits (bit_at (sum_of rs x)) high_zero
      ∙ low_sums
