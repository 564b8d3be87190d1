-- What is shown of a working: it is the working of that coded bit, and whoever adds it up comes to the bit that is sent.
use Rattle.std.specs.Prelude.{ℕ, ◌+◌, ◌*◌, ◌%◌, ◌<◌, ◌≡◌, get_or, length}
use Rattle.scrambling.specs.Scrambler.{sequence}
use Rattle.coding.specs.declared.Rate.{Rate}
use Rattle.coding.specs.Coder.{back, tapped, generators}
use Rattle.coding.specs.Rates.{coded_length}
use Rattle.coding.specs.Channel.{channel}
use Rattle.workings.specs.declared.Worked.{Worked}

-- w is the working of coded bit m of transfer frame `frame` of the transfer frames F, of n bits each
pub record Explains (rate : Rate) (n : ℕ) (F : ℕ → ℕ) (frame m : ℕ) (w : Worked) : Type 0 where
  -- the coded bit is that of the channel, and the sum modulo 2
  pub is-coded : w.coded ≡ channel rate n F (frame * coded_length rate n + m)
  pub is_sum : w.coded ≡ w.sum % 2
  -- the sum is that of the frame's bits and the scrambler's where the generator, one of the three of Table 9-2, has a tap
  pub adds-up : w.sum ≡ tapped w.generator (λ d. get_or w.bits d 0 + get_or w.scrambling d 0)
  pub one_of_three : (k : ℕ) × (k < 3) × (w.generator ≡ get_or generators k 0)
  -- these are bit j of the frame and the six before it, and the scrambler's bits at their places
  pub number_lt : w.number < n
  pub seven : (length w.bits ≡ 7) × (length w.scrambling ≡ 7)
  pub bit-at : (d : ℕ) → d < 7 → get_or w.bits d 0 ≡ F (frame * n + back n w.number d)
  pub added-at : (d : ℕ) → d < 7 → get_or w.scrambling d 0 ≡ sequence (back n w.number d)
