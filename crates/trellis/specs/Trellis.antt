-- What the code of this crate counts by, and no part of S-12. A step takes one bit into the register of six, a number whose lowest digit is the newest bit;
-- its window is the register with the new bit behind it.
use Rattle.std.specs.Prelude.{◌≡◌, cond, List, ℕ, zero, suc, ◌+◌, ◌-◌, ◌*◌, ◌/◌, ◌%◌, ◌^◌, ◌<◌, ◌≤◌, min, eqb, leb, get_or}
use Rattle.coding.specs.Coder.{tapped}
use Rattle.trellis.specs.declared.Scores.{Scores}
use Rattle.trellis.specs.Cells.{differs}

-- the output of the generator g for a window
unfoldable pub output_of : ℕ → ℕ → ℕ
output_of g w = tapped g (λ d. w / 2 ^ d % 2) % 2

-- how many of the read cells of step j differ from the outputs of the window w: an even step has three cells, an odd one the two after them
unfoldable pub cost : List ℕ → ℕ → ℕ → ℕ
cost cells j w =
    differs (get_or cells (j / 2 * 5 + j % 2 * 3) 0) (output_of 0o133 w) + differs (get_or cells (j / 2 * 5 + j % 2 * 3 + 1) 0) (output_of 0o171 w)
    + cond (eqb (j % 2) 0) (differs (get_or cells (j / 2 * 5 + j % 2 * 3 + 2) 0) (output_of 0o165 w)) 0

-- the outputs of a window as a number below 8, the first weighing 4, and those of all windows in one list
unfoldable pub outputs_of : ℕ → ℕ
outputs_of w = output_of 0o133 w * 4 + output_of 0o171 w * 2 + output_of 0o165 w

pub record Outputs (all : List ℕ) : Type 0 where
  pub at : (w : ℕ) → w < 128 → get_or all w 0 ≡ outputs_of w

-- the cost of the outputs y
unfoldable pub cost_by : List ℕ → ℕ → ℕ → ℕ
cost_by cells j y =
    differs (get_or cells (j / 2 * 5 + j % 2 * 3) 0) (y / 4) + differs (get_or cells (j / 2 * 5 + j % 2 * 3 + 1) 0) (y / 2 % 2)
    + cond (eqb (j % 2) 0) (differs (get_or cells (j / 2 * 5 + j % 2 * 3 + 2) 0) (y % 2)) 0

-- those of the eight outputs in one list
pub record Eight (cells : List ℕ) (j : ℕ) (costs : List ℕ) : Type 0 where
  pub at : (y : ℕ) → y < 8 → get_or costs y 0 ≡ cost_by cells j y

-- the register after a window
abbrev pub next : ℕ → ℕ
next w = w % 64

-- the least sum over k steps from step j and register r on: each step costs `cost`, and the last register `final`
unfoldable pub best : (ℕ → ℕ → ℕ) → (ℕ → ℕ) → ℕ → ℕ → ℕ → ℕ
best cost final zero j r = final r
best cost final (suc k) j r =
    min (cost j (2 * r) + best cost final k (suc j) (next (2 * r))) (cost j (2 * r + 1) + best cost final k (suc j) (next (2 * r + 1)))

-- the last register of a path that is to end at e: any other costs more than all cells
unfoldable pub ended : ℕ → ℕ → ℕ
ended e r = cond (eqb r e) 0 201

-- the last register of a path that may end anywhere
abbrev pub anywhere : ℕ → ℕ
anywhere r = 0

-- the costs of all windows at all steps in one list: that of the window w at step j stands at 128 j + w
abbrev pub tabled : List ℕ → ℕ → ℕ → ℕ
tabled costs j w = get_or costs (128 * j + w) 0

pub record Tabled (cells costs : List ℕ) : Type 0 where
  pub at : (j w : ℕ) → j < 80 → w < 128 → tabled costs j w ≡ cost cells j w

-- the costs of step j are written, by the outputs of its windows, and those of earlier steps stay
pub record Filled (costs old new : List ℕ) (j : ℕ) : Type 0 where
  pub there : (w : ℕ) → w < 128 → tabled new j w ≡ get_or costs (outputs_of w) 0
  pub earlier : (n : ℕ) → n < 128 * j → get_or new n 0 ≡ get_or old n 0

-- the scores after all steps in one list: that of the register r after step j stands at 64 j + r
abbrev pub after : List ℕ → ℕ → ℕ → ℕ
after kept j r = get_or kept (64 * j + r) 0

-- costs and scores whose sums cannot go too far
abbrev pub Cheap : List ℕ → Type 0
Cheap costs = (j w : ℕ) → j < 80 → w < 128 → tabled costs j w ≤ 3

abbrev pub Low : List ℕ → Type 0
Low scores = (r : ℕ) → r < 64 → get_or scores r 0 ≤ 1000

abbrev pub AllLow : List ℕ → Type 0
AllLow kept = (j r : ℕ) → j < 80 → r < 64 → after kept j r ≤ 1000

-- the score of the register r before step j from those after it, and the scores of all
abbrev pub score_before : List ℕ → ℕ → List ℕ → ℕ → ℕ
score_before costs j late r =
    min (tabled costs j (2 * r) + get_or late (next (2 * r)) 0) (tabled costs j (2 * r + 1) + get_or late (next (2 * r + 1)) 0)

abbrev pub Before : List ℕ → ℕ → List ℕ → List ℕ → Type 0
Before costs j scores late = (r : ℕ) → r < 64 → get_or scores r 0 ≡ score_before costs j late r

-- the scores of the 64 registers at a step: the least sums over the k steps from there to the end
pub record Scored (cost : ℕ → ℕ → ℕ) (final : ℕ → ℕ) (k : ℕ) (s : Scores) : Type 0 where
  pub step : s.step + k ≡ 80
  pub right : (r : ℕ) → r < 64 → get_or s.scores r 0 ≡ best cost final k s.step r
  pub low : (r : ℕ) → r < 64 → get_or s.scores r 0 ≤ 201 + 3 * k

-- the scores after step j are stored, and those after later steps stay
pub record Stored (scores old new : List ℕ) (j : ℕ) : Type 0 where
  pub there : (r : ℕ) → r < 64 → after new j r ≡ get_or scores r 0
  pub later : (n : ℕ) → 64 * j + 64 ≤ n → get_or new n 0 ≡ get_or old n 0

-- the scores after each step from step k on
pub record Kept (cost : ℕ → ℕ → ℕ) (final : ℕ → ℕ) (k : ℕ) (kept : List ℕ) : Type 0 where
  pub right : (j r : ℕ) → k ≤ j → j < 80 → r < 64 → after kept j r ≡ best cost final (79 - j) (suc j) r
  pub low : (j r : ℕ) → k ≤ j → j < 80 → r < 64 → after kept j r ≤ 1000

-- the bit that a best path takes at step j of 80 from register r: 0 wherever it does as well
unfoldable pub chosen : (ℕ → ℕ → ℕ) → (ℕ → ℕ) → ℕ → ℕ → ℕ
chosen cost final j r =
    cond
    (leb (cost j (2 * r) + best cost final (79 - j) (suc j) (next (2 * r)))
    (cost j (2 * r + 1) + best cost final (79 - j) (suc j) (next (2 * r + 1))))
    0
    1

-- the same from the lists
unfoldable pub lower : List ℕ → List ℕ → ℕ → ℕ → ℕ
lower costs kept j r =
    cond
    (leb (tabled costs j (2 * r) + after kept j (next (2 * r))) (tabled costs j (2 * r + 1) + after kept j (next (2 * r + 1))))
    0
    1

-- the registers of that path, from the register e on, and its bits
unfoldable pub walked : (ℕ → ℕ → ℕ) → (ℕ → ℕ) → ℕ → ℕ → ℕ
walked cost final e zero = e
walked cost final e (suc j) = next (2 * walked cost final e j + chosen cost final j (walked cost final e j))

unfoldable pub walk : (ℕ → ℕ → ℕ) → (ℕ → ℕ) → ℕ → ℕ → ℕ
walk cost final e j = chosen cost final j (walked cost final e j)

-- the least sum over the 80 steps from a register on
abbrev pub least_from : (ℕ → ℕ → ℕ) → (ℕ → ℕ) → ℕ → ℕ
least_from cost final r = best cost final 80 0 r

-- the same over the paths that start and end at e
abbrev pub least : (ℕ → ℕ → ℕ) → ℕ → ℕ
least cost e = least_from cost (ended e) e

-- the least of the sums of all registers
pub record LeastOf (cost : ℕ → ℕ → ℕ) (final : ℕ → ℕ) (m : ℕ) : Type 0 where
  pub at : ℕ
  pub inside : at < 64
  pub reached : least_from cost final at ≡ m
  pub under : (r : ℕ) → r < 64 → m ≤ least_from cost final r

-- the least of the first n scores
pub record LeastScore (scores : List ℕ) (n m : ℕ) : Type 0 where
  pub at : ℕ
  pub inside : at < n
  pub reached : get_or scores at 0 ≡ m
  pub under : (r : ℕ) → r < n → m ≤ get_or scores r 0
