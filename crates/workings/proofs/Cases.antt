-- What the working says, case by case. Assumes nothing.
use mathlib.Core.Path.{◌≡◌}
use mathlib.Core.Bool.{true, false}
use mathlib.Core.List.{List}
use Prim.Native.Nat.{ℕ, zero, suc, ◌*◌, ◌/◌, ◌%◌, ◌<◌, ◌≤◌}
use native.Mathlib.Nat.{mul-le-mul_right}
use native.Mathlib.Omega.{arith}
use borrow.Author.Tests.{eq-eqb, ne_eqb, lt-ltb, le-ltb}
use lib.ListN.{get_or, length}
use Rattle.bits.specs.Bits.{bit_at}
use Rattle.bits.specs.Listed.{listed}
use Rattle.scrambling.specs.Scrambler.{sequence}
use Rattle.coding.specs.declared.Rate.{Rate}
use Rattle.coding.specs.Coder.{back}
use Rattle.coding.specs.Rates.{coded_length}
use Rattle.coding.specs.Channel.{part}
use Rattle.runs.specs.declared.Answer.TheVariants.{Success, StateNotValid, WrongLength}
use Rattle.runs.specs.declared.State.{State}
use Rattle.runs.specs.Starting.{valid}
use Rattle.locating.specs.declared.writing.Writing.{Writing}
use Rattle.workings.specs.declared.Worked.{Worked}
use Rattle.workings.specs.Shown.{older, rate_of, frames_of, bits_of, generator_of, number_of, weighed, writing_of, shown, refused, worked_of}

module _ (s : State) (channel frame bit : ℕ) (frames : List ℕ) where
  pub state-refused : valid s ≡ false → refused StateNotValid ≡ worked_of s channel frames frame bit
  unfolding worked_of
  state-refused u = rw u

  pub mode-refused : valid s ≡ true → older s.mode ≡ false → refused (WrongLength 0) ≡ worked_of s channel frames frame bit
  unfolding worked_of
  mode-refused u v = rw (u, v)

  -- n is the bits of a transfer frame, and count their number
  module _ (u : valid s ≡ true) (v : older s.mode ≡ true) (n : ℕ) (n-is : n ≡ bits_of s.mode channel) where
    pub channel-refused : n ≡ 0 → refused (WrongLength 0) ≡ worked_of s channel frames frame bit
    unfolding worked_of
    channel-refused z = rw (u, v, ← n-is, eq-eqb n 0 z)

    module _ (ne : n ≡ 0 → ⊥) (count : ℕ) (count-is : count ≡ frames_of channel) where
      pub length-refused : (length frames ≡ count * n / 8 → ⊥) → refused (WrongLength 1) ≡ worked_of s channel frames frame bit
      unfolding worked_of
      length-refused h = rw (u, v, ← n-is, ← count-is, ne_eqb n 0 ne, ne_eqb (length frames) (count * n / 8) h)

      module _ (len : length frames ≡ count * n / 8) where
        pub frame_refused : count ≤ frame → refused (WrongLength 2) ≡ worked_of s channel frames frame bit
        unfolding worked_of
        frame_refused h = rw (u, v, ← n-is, ← count-is, ne_eqb n 0 ne, eq-eqb (length frames) (count * n / 8) len, le-ltb frame count h)

        module _ (lf : frame < count) (rate : Rate) (rate-is : rate ≡ rate_of channel) where
          pub bit-refused : coded_length rate n ≤ bit → refused (WrongLength 3) ≡ worked_of s channel frames frame bit
          unfolding worked_of
          bit-refused h =
              rw (
                u,
                v,
                ← n-is,
                ← count-is,
                ← rate-is,
                ne_eqb n 0 ne,
                eq-eqb (length frames) (count * n / 8) len,
                lt-ltb frame count lf,
                le-ltb bit (coded_length rate n) h,
              )

          pub inside : bit < coded_length rate n → shown rate n (part n frame (bit_at frames)) bit (writing_of s.mode s.half channel frame bit) ≡ worked_of s channel frames frame bit
          unfolding worked_of
          inside h =
              rw (
                u,
                v,
                ← n-is,
                ← count-is,
                ← rate-is,
                ne_eqb n 0 ne,
                eq-eqb (length frames) (count * n / 8) len,
                lt-ltb frame count lf,
                lt-ltb bit (coded_length rate n) h,
              )

-- ---- the working, part by part

pub shown-is : (rate : Rate) (n : ℕ) (f : ℕ → ℕ) (m j g sum : ℕ) (b s : List ℕ) (w : Writing)
    → j ≡ number_of rate m → g ≡ generator_of rate m
    → b ≡ listed 7 (λ d. f (back n j d)) → s ≡ listed 7 (λ d. sequence (back n j d)) → sum ≡ weighed g b s
    → ◌≡◌ {A = Worked} (record { answer = Success; number = j; generator = g; bits = b; scrambling = s; sum = sum; coded = sum % 2; writing = w })
    (shown rate n f m w)
unfolding shown
shown-is rate n f m j g sum b s w j-is g-is b-is s-is sum_is_lem = rw (sum_is_lem, s-is, b-is, g-is, j-is)

pub seven-small : (f : ℕ → ℕ) → ((d : ℕ) → f d < 2) → (d : ℕ) → get_or (listed 7 f) d 0 < 2
unfolding listed
seven-small f h zero = h 0
seven-small f h (suc zero) = h 1
seven-small f h (suc (suc zero)) = h 2
seven-small f h (suc (suc (suc zero))) = h 3
seven-small f h (suc (suc (suc (suc zero)))) = h 4
seven-small f h (suc (suc (suc (suc (suc zero))))) = h 5
seven-small f h (suc (suc (suc (suc (suc (suc zero)))))) = h 6
seven-small f h (suc (suc (suc (suc (suc (suc (suc d))))))) = omega arith

pub sequence-lt : (n : ℕ) → sequence n < 2
unfolding sequence
sequence-lt n = omega arith

pub start_small : (frame n : ℕ) → frame ≤ 16 → n ≤ 146176 → frame * n ≤ 2338816
start_small frame n lf ln = omega (arith, mul-le-mul_right n lf)
