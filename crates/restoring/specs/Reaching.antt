-- What the code of this crate counts by, and no part of S-11: where paths of the coder's register can end that differ from no cell that was read.
-- A set of registers is a number, whose digit e is for the register e.
use Rattle.std.specs.Prelude.{◌≡◌, Bool, true, false, cond, List, ℕ, zero, suc, ◌+◌, ◌-◌, ◌*◌, ◌/◌, ◌%◌, ◌^◌, ◌<◌, ◌≤◌, eqb, get_or}
use Rattle.std.specs.Int.Bits.{bit_or}
use Rattle.bits.specs.Bits.{packed}
use Rattle.trellis.specs.Trellis.{cost, next}

-- the register e is in a set
unfoldable pub has : ℕ → ℕ → Bool
has set e = eqb (set / 2 ^ e % 2) 1

-- a set behind a window: none of it where a cell differs
unfoldable pub free : ℕ → ℕ → ℕ
free cost set = cond (eqb cost 0) set 0

-- the ends of k steps from step j and register r on
unfoldable pub ends : List ℕ → ℕ → ℕ → ℕ → ℕ
ends cells zero j r = 2 ^ r
ends cells (suc k) j r =
    bit_or (free (cost cells j (2 * r)) (ends cells k (suc j) (next (2 * r)))) (free (cost cells j (2 * r + 1)) (ends cells k (suc j) (next (2 * r + 1))))

-- those of all 80 steps through the window w at step j
abbrev pub through : List ℕ → ℕ → ℕ → ℕ
through cells j w = free (cost cells j w) (ends cells (79 - j) (suc j) (next w))

-- the ends from each step from step k on in one list: those from step j and register r stand at 64 j + r
pub record Reached (cells : List ℕ) (k : ℕ) (kept : List ℕ) : Type 0 where
  pub at : (j r : ℕ) → k ≤ j → j ≤ 80 → r < 64 → get_or kept (64 * j + r) 0 ≡ ends cells (80 - j) j r

-- a path from the register e on can end there
abbrev pub closed : List ℕ → ℕ → Bool
closed cells e = has (ends cells 80 0 e) e

-- the first such register from one on, 64 where there is none
pub record NextClosed (cells : List ℕ) (from e : ℕ) : Type 0 where
  pub low : e ≤ 64
  pub above : from ≤ e
  pub none : (d : ℕ) → from ≤ d → d < e → closed cells d ≡ false
  pub there : e < 64 → closed cells e ≡ true

-- the end e can be reached through the window w at step j
abbrev pub passes : List ℕ → ℕ → ℕ → ℕ → Bool
passes cells e j w = has (through cells j w) e

-- the bit of the only open window, 2 where both are
unfoldable pub way : Bool → Bool → ℕ
way p q = cond p (cond q 2 0) 1

-- the path from e on that takes the bit p j at step j where its window is open: what it takes from a register, its registers, and its bits
unfoldable pub taken : List ℕ → ℕ → (ℕ → ℕ) → ℕ → ℕ → ℕ
taken cells e p j r = cond (passes cells e j (2 * r + p j)) (p j) (1 - p j)

unfoldable pub gone : List ℕ → ℕ → (ℕ → ℕ) → ℕ → ℕ
gone cells e p zero = e
gone cells e p (suc j) = next (2 * gone cells e p j + taken cells e p j (gone cells e p j))

unfoldable pub went : List ℕ → ℕ → (ℕ → ℕ) → ℕ → ℕ
went cells e p j = taken cells e p j (gone cells e p j)

abbrev pub zeros : ℕ → ℕ
zeros j = 0

-- both windows are open at step j of the path that takes 0 where it can
abbrev pub Fork : List ℕ → ℕ → ℕ → Type 0
Fork cells e j = (passes cells e j (2 * gone cells e zeros j) ≡ true) × (passes cells e j (2 * gone cells e zeros j + 1) ≡ true)

-- that path is written if nowhere on it both are
pub record Followed (cells : List ℕ) (e : ℕ) (out : List ℕ) (r : Bool) : Type 0 where
  pub alone : r ≡ true → ((j : ℕ) → j < 80 → Fork cells e j → ⊥) × (out ≡ packed 10 (went cells e zeros))
  pub forked : r ≡ false → (j : ℕ) × (j < 80) × Fork cells e j
