-- For the code alone: a text in a buffer.
use Rattle.std.specs.Prelude.{ℕ, ◌≤◌, ◌≡◌, List, length, take}

-- a buffer begins with a text of n bytes
pub record Begins (out : List ℕ) (n : ℕ) (text : List ℕ) : Type 0 where
  pub within : n ≤ length out
  pub holds : take n out ≡ text
