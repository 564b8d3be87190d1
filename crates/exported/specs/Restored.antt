-- Document 02, S-11: what a restoring of the C library leaves, and its word.
use Rattle.std.specs.Prelude.{◌≡◌, List, ℕ}
use Rattle.runs.specs.declared.Answer.{Answer}
use Rattle.restoring.specs.Restored.{Restored}
use Rattle.words.specs.Words.{answer_word}

-- the word of the one outcome of S-11: the law `restored-word-once`
pub record RestoredBy (cells before after : List ℕ) (word : ℕ) : Type 0 where
  pub answer : Answer
  pub restored : Restored cells before after answer
  pub told : word ≡ answer_word answer
