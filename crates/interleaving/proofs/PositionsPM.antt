-- The positions of PM are document 01's rows and columns, and each is met once: the laws at J = 20, B = 16 and C = 36. Assumes nothing.
use native.Mathlib.Omega.{arith}
use Rattle.interleaving.specs.PositionsPM.{PositionsPM}
use Rattle.interleaving.proofs.Matrix as M
use Rattle.interleaving.proofs.OncePM as O
use Rattle.interleaving.proofs.AtPositions as A

pub positions-pm : PositionsPM
positions-pm =
    record {
      p1-inside = O.p1-inside;
      pids-inside = O.pids-inside;
      once = O.pm-positions-once;
      row_lt = M.row_lt 20 16 36;
      column-lt = M.column-lt 20 16 36;
      position-is = M.at-row-column 20 16 36;
      inside = λ y x hy hx. M.at-inside 20 16 36 y x (omega arith) hy hx;
      row_is = M.row_at 36;
      column-is = M.column-at 36;
      p1-stands = A.p1-stands;
      pids-stands = A.pids-stands;
      at-cell = A.at-cell;
      by-cells = A.matrix-at;
    }
