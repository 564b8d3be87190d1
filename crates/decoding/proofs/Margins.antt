-- The margin: no frame is nearer by more than it, and there is one. Assumes nothing.
use mathlib.Core.Path.{◌≡◌}
use mathlib.Core.Logic.{inl, inr}
use mathlib.Core.List.{List}
use Prim.Native.Nat.{ℕ, ◌+◌, ◌<◌, ◌≤◌}
use native.Mathlib.Decide.{dec_lt}
use native.Mathlib.Omega.{arith}
use Rattle.trellis.specs.Cells.{Frame, scrambled_of, distance}
use Rattle.trellis.specs.Paths.{start, LeastOverPaths}
use Rattle.trellis.specs.Trellis.{cost, anywhere, tabled, Tabled, LeastOf}
use Rattle.decoding.specs.Nearness.{Nearest, Margin}
use Rattle.decoding.specs.Starts.{MarginBy}
use Rattle.trellis.proofs.Optimal.{BitsTo}
use Rattle.trellis.proofs.Distances.{closed, closed-distance}
use Rattle.trellis.proofs.Closing.{closed-bits, start-lt}
use Rattle.trellis.proofs.OverPaths.{over-paths}
use Rattle.trellis.proofs.Tables.{least-of-same}
use Rattle.decoding.proofs.Ranking.{Lexicographic, rank-order, frame-bits}

pub lex-distance : (d a n d' a' n' : ℕ) → Lexicographic d a n d' a' n' → d ≤ d'
lex-distance d a n d' a' n' (inl l) = omega arith
lex-distance d a n d' a' n' (inr (e, l)) = omega arith

-- the least over all paths is no more than a frame's distance
pub paths-under : (cells : List ℕ) (m : ℕ) → LeastOverPaths cells m → (s : ℕ → ℕ) → BitsTo 80 s → m ≤ distance cells s
paths-under cells m h s b = omega (arith, h.under (closed s) (closed-bits s b), closed-distance cells s)

-- S-12: no frame at all is nearer by more than the margin
pub within-margin : (cells : List ℕ) (budget : ℕ) (frame : List ℕ) (margin : ℕ) → budget ≤ 64 → Nearest cells budget frame
    → Margin cells budget (distance cells (scrambled_of frame)) margin
    → (other : List ℕ) → Frame other → distance cells (scrambled_of frame) ≤ distance cells (scrambled_of other) + margin
within-margin cells budget frame margin low near m other shape = go (dec_lt budget 64)
  where
    go : Dec (budget < 64) → distance cells (scrambled_of frame) ≤ distance cells (scrambled_of other) + margin
    go (yes l) =
        let s = m.some l in
        omega (arith, s.2, paths-under cells s.0 s.1 (scrambled_of other) (frame-bits other))
    go (no l) =
        let all : start (scrambled_of other) < budget = omega (arith, start-lt (scrambled_of other) (frame-bits other)) in
        omega (
          arith,
          lex-distance _ _ _ _ _ _
              ((rank-order cells (scrambled_of frame) (scrambled_of other) (frame-bits frame) (frame-bits other)).0 (near.first other shape all)),
        )

-- there is one margin
pub paths-once : (cells : List ℕ) (m n : ℕ) → LeastOverPaths cells m → LeastOverPaths cells n → m ≡ n
paths-once cells m n a b = omega (arith, a.under b.path b.bits, b.under a.path a.bits, a.reached, b.reached)

pub margin-once : (cells : List ℕ) (budget d m n : ℕ) → budget ≤ 64 → Margin cells budget d m → Margin cells budget d n → m ≡ n
margin-once cells budget d m n low a b = go (dec_lt budget 64)
  where
    go : Dec (budget < 64) → m ≡ n
    go (yes l) =
        let s = a.some l in
        let t = b.some l in
        omega (arith, s.2, t.2, paths-once cells s.0 t.0 s.1 t.1)
    go (no l) = let e : budget ≡ 64 = omega arith in omega (arith, a.all e, b.all e)

pub margin-fits : (cells frame : List ℕ) (d : ℕ) → d ≡ distance cells (scrambled_of frame) → (m : ℕ) → LeastOverPaths cells m → m ≤ d
margin-fits cells frame d e m h = omega (arith, paths-under cells m h (scrambled_of frame) (frame-bits frame))

-- the margin from the table of costs
module _ (cells costs : List ℕ) (t : Tabled cells costs) where
  pub paths-of : (m : ℕ) → LeastOf (tabled costs) anywhere m → LeastOverPaths cells m
  paths-of m h = over-paths cells m (least-of-same (tabled costs) (cost cells) t.at anywhere m h)

  pub margin-of : (budget d m : ℕ) → MarginBy (tabled costs) budget d m → Margin cells budget d m
  margin-of budget d m h =
      record {
        all = h.all;
        some = λ l. let s = h.some l in (s.0, paths-of s.0 s.1, s.2);
      }
