-- Document 02, S-4: what the place list of a successful call promises; the last two clauses say "in turn" (docs/DECISIONS.md D57).
use Rattle.std.specs.Prelude.{◌≡◌, ◌⊎◌, cond, List, [], ◌∷◌, ℕ, ◌+◌, ◌<◌, ◌≤◌, min, eqb, get_or, length}

-- how often a number stands in a list
unfoldable pub count : ℕ → List ℕ → ℕ
count x [] = 0
count x (y ∷ ys) = cond (eqb x y) (1 + count x ys) (count x ys)

-- the smaller of a source's share and its count
abbrev pub least : (shares waiting : List ℕ) → ℕ → ℕ
least shares waiting d = min (get_or shares d 0) (get_or waiting d 0)

-- a source, or the mark of a frame of zeros
abbrev pub Owner : ℕ → Type 0
Owner v = (v < 8) ⊎ (v ≡ 255)

pub record Promises (shares waiting places : List ℕ) : Type 0 where
  pub sixteen : length places ≡ 16
  -- each place is a source's or carries a frame of zeros
  pub owned : (q : ℕ) → q < 16 → Owner (get_or places q 0)
  -- source by source, lowest first
  pub in_order : (q r : ℕ) → q ≤ r → r < 16 → get_or places q 0 ≤ get_or places r 0
  -- no source gets fewer than the smaller of its share and its count
  pub not-fewer : (d : ℕ) → d < 8 → least shares waiting d ≤ count d places
  -- or more than it has waiting
  pub not_more : (d : ℕ) → d < 8 → count d places ≤ get_or waiting d 0
  -- no place is idle while a message waits
  pub none-idle : (d : ℕ) → d < 8 → count d places < get_or waiting d 0 → count 255 places ≡ 0
  -- of the places left over, no source d gets more than one more than a source e that still has messages
  pub one-ahead : (d e : ℕ) → d < 8 → e < 8 → count e places < get_or waiting e 0
      → count d places + least shares waiting e ≤ count e places + least shares waiting d + 1
  -- and a source above e gets no more than e
  pub lower-first : (d e : ℕ) → e < d → d < 8 → count e places < get_or waiting e 0
      → count d places + least shares waiting e ≤ count e places + least shares waiting d
