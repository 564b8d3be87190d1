-- What a call of the C library leaves: its word, and the memory and the buffers, beside what the definitions of runs say.
use Rattle.std.specs.Prelude.{ℕ}
use Rattle.runs.specs.Lent.{Lent, Memory, Result}
use Rattle.runs.specs.Starting.{Started}
use Rattle.words.specs.Words.{outcome_word}

-- by a start
pub record StartLeft : Type 0 where
  pub word : ℕ
  pub memory : Memory

abbrev pub start_left : ℕ → Memory → StartLeft
start_left word memory = record { word = word; memory = memory }

abbrev pub start_left_by : Started → StartLeft
start_left_by g = start_left (outcome_word g.answer g.state) g.memory

-- by a sending or a reading
pub record Left : Type 0 where
  pub word : ℕ
  pub memory : Memory
  pub lent : Lent

abbrev pub left : ℕ → Memory → Lent → Left
left word memory lent = record { word = word; memory = memory; lent = lent }

abbrev pub left_by : Result → Left
left_by g = left (outcome_word g.answer g.state) g.memory g.lent
