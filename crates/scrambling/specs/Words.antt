-- The sequence of 8.2 by words of 32 bits, the first bit weighing most, and the eleven words that a frame's next words are made from.
use Rattle.std.specs.Prelude.{◌≡◌, List, ℕ, ◌+◌, ◌*◌, ◌%◌, ◌<◌, get_or}
use Rattle.bits.specs.Bits.{number}
use Rattle.scrambling.specs.Scrambler.{sequence}

-- a stream of bits
abbrev pub Bit : (ℕ → ℕ) → Type 0
Bit f = (i : ℕ) → f i < 2

-- word w of the sequence
unfoldable pub word_of : ℕ → ℕ
word_of w = number 32 (λ k. sequence (32 * w + k))

-- a ring of 16 words that has the eleven words of the sequence from word w on
pub record Ahead (ring : List ℕ) (w : ℕ) : Type 0 where
  pub words : (d : ℕ) → d < 11 → get_or ring ((w + d) % 16) 0 ≡ word_of (w + d)
