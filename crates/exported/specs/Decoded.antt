-- Document 02, S-12: what a search of the C library leaves.
use Rattle.std.specs.Prelude.{◌≡◌, List, ℕ}
use Rattle.decoding.specs.declared.Decoded.{Decoded}
use Rattle.decoding.specs.Outcomes.{Answered}
use Rattle.words.specs.Words.{decoded_word}

-- the word of the one outcome of S-12: the law `word-once`
pub record AnsweredBy (cells before after : List ℕ) (budget word : ℕ) : Type 0 where
  pub decoded : Decoded
  pub answered : Answered cells before after budget decoded
  pub told : word ≡ decoded_word decoded
