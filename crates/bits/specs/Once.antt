-- Each cell is met once: the form of the law that document 01 asks for. It speaks of a place map and of the map back.
use Rattle.std.specs.Prelude.{◌≡◌, ℕ, ◌<◌}

-- The bits that are present meet each of the cells below N once: `place` is a bit's cell and `source` a cell's bit, and the two undo each other.
-- A bit is a number, or a number of one of several streams.
pub record EachOnce {S : Type 0} (Present : S → Type 0) (N : ℕ) (place : S → ℕ) (source : ℕ → S) : Type 0 where
  pub there : (s : S) → Present s → place s < N
  pub back : (c : ℕ) → c < N → Present (source c)
  pub there_back : (s : S) → Present s → source (place s) ≡ s
  pub back-there : (c : ℕ) → c < N → place (source c) ≡ c

-- The bits of one stream of N.
abbrev pub Below : ℕ → ℕ → Type 0
Below N i = i < N
