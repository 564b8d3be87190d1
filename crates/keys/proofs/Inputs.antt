-- What `keys` writes is what `sender` reads as the sums: an L1 frame in the sum of inputs is the sum of the L1 frames in them. Assumes nothing.
use Prim.Native.Nat.{ℕ, ◌+◌, ◌%◌, ◌≤◌, ◌<◌}
use mathlib.Core.Path.{◌≡◌}
use mathlib.Core.List.{List}
use native.Mathlib.Omega.{arith}
use lib.ListN.{length, get_or, take, drop}
use Rattle.runs.specs.MainChannels.{main_of, p1_len, p2_len}
use Rattle.runs.specs.Lengths.{pids_len}
use Rattle.runs.specs.Chain.{Buffer}
use Rattle.runs.specs.Runs.{Every}
use Rattle.run_input.specs.Inputs.{frames_in}
use Rattle.summing.specs.Sums.{sum_of, sum_frames}
use Rattle.summing.proofs.Buffers.{cut_sum, every_map}
use Rattle.summing.proofs.Numbers.{number-sum}

-- an input with n3 and n4 bytes of P3 and P4 that has the right length and starts with a number up to 7
pub record Whole (mode n3 n4 : ℕ) (input : Buffer) : Type 0 where
  pub long : length input ≡ 1 + p1_len (main_of mode) + pids_len + p2_len (main_of mode) + n3 + n4
  pub low : get_or input 0 0 < 8

pub input-sum : (mode n3 n4 : ℕ) (inputs : List Buffer) → length inputs % 2 ≡ 1 → Every (Whole mode n3 n4) inputs
    → frames_in mode n3 n4 (sum_of inputs (λ (b : Buffer). b)) ≡ sum_frames inputs (frames_in mode n3 n4)
unfolding frames_in sum_frames
input-sum mode n3 n4 inputs odd each =
    λ i.
    record {
      reserved = number-sum inputs odd (λ (b : Buffer). b) all long (every_map (λ b w. w.low) inputs each) i;
      p1 = cut 1 p1 (omega arith) i;
      pids = cut (1 + p1) pids_len (omega arith) i;
      p2 = cut (1 + p1 + pids_len) p2 (omega arith) i;
      p3 = cut (1 + p1 + pids_len + p2) n3 (omega arith) i;
      p4 = cut (1 + p1 + pids_len + p2 + n3) n4 (omega arith) i;
    }
  where
    p1 : ℕ
    p1 = p1_len (main_of mode)

    p2 : ℕ
    p2 = p2_len (main_of mode)

    all : ℕ
    all = 1 + p1 + pids_len + p2 + n3 + n4

    long : Every (λ (b : Buffer). length b ≡ all) inputs
    long = every_map (λ b w. w.long) inputs each

    cut : (from n : ℕ) → from + n ≤ all → take n (drop from (sum_of inputs (λ (b : Buffer). b))) ≡ sum_of inputs (λ (b : Buffer). take n (drop from b))
    cut from n room = cut_sum inputs odd (λ (b : Buffer). b) from n all room long
