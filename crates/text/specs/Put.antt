-- Text put behind what a buffer holds.
use Rattle.std.specs.Prelude.{ℕ, ◌+◌, ◌≤◌, ◌≡◌, List, ◌++◌, length, take}

-- `text` stands at `at` behind what stood before, and ends at `end`, at most `most` bytes on; the buffer's size is the same.
pub record Put (old new : List ℕ) (at end most : ℕ) (text : List ℕ) : Type 0 where
  pub within : end ≤ at + most
  pub size : length new ≡ length old
  pub holds : take end new ≡ take at old ++ text
