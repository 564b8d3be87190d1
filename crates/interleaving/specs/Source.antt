-- The bits of two streams: `first i` is the bit i of the one, `second i` of the other.
use Rattle.std.specs.Prelude.{ℕ, ◌<◌}

pub data Source : Type 0 where
  first : ℕ → Source
  second : ℕ → Source

-- the bits of two streams, of N and of N'
abbrev pub Either : (N N' : ℕ) → Source → Type 0
Either N N' (first i) = i < N
Either N N' (second i) = i < N'

-- one function on the one stream, another on the other
abbrev pub at : {A : Type 0} (f f' : ℕ → A) → Source → A
at f f' (first i) = f i
at f f' (second i) = f' i
