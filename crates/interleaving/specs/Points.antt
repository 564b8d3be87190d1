-- Points of our own for PM and for PX1 in MP2, worked by hand from Tables 10-12, 10-13 and 10-15, as what the definitions give beside what the hand gave. That each
-- cell is met once does not tell the partition order, J or M: another order with its own inverse meets each cell once too.
use Rattle.std.specs.Prelude.{List, [], ◌∷◌, map, ℕ, ◌/◌, ◌%◌}
use Rattle.interleaving.specs.declared.Position.{Position}
use Rattle.interleaving.specs.Matrix.{matrix_row, matrix_column}
use Rattle.interleaving.specs.PM.{p1_position, pids_position}
use Rattle.interleaving.specs.PX.{place}

-- row and column of PM at a position
abbrev pub row_column : Position → List ℕ
row_column at = matrix_row at ∷ matrix_column 36 at ∷ []

-- where coded bits 0 to 19 stand, one in each partition in its turn
abbrev first_turn : (ℕ → Position) → List (List ℕ)
first_turn position =
    map (λ i. row_column (position i)) (0 ∷ 1 ∷ 2 ∷ 3 ∷ 4 ∷ 5 ∷ 6 ∷ 7 ∷ 8 ∷ 9 ∷ 10 ∷ 11 ∷ 12 ∷ 13 ∷ 14 ∷ 15 ∷ 16 ∷ 17 ∷ 18 ∷ 19 ∷ [])

unfoldable pub table_points : List (List (List ℕ) × List (List ℕ))
table_points =
    -- Table 10-12, P1: partition p begins in block 7 p modulo 16, row 0, column 36 p
    (
      first_turn p1_position,
      (192 ∷ 360 ∷ []) ∷ (448 ∷ 72 ∷ []) ∷ (448 ∷ 648 ∷ []) ∷ (320 ∷ 216 ∷ []) ∷ (64 ∷ 504 ∷ [])
          ∷ (256 ∷ 288 ∷ []) ∷ (0 ∷ 576 ∷ []) ∷ (0 ∷ 0 ∷ []) ∷ (128 ∷ 432 ∷ []) ∷ (384 ∷ 144 ∷ [])
          ∷ (416 ∷ 396 ∷ []) ∷ (160 ∷ 108 ∷ []) ∷ (160 ∷ 684 ∷ []) ∷ (32 ∷ 252 ∷ []) ∷ (288 ∷ 540 ∷ [])
          ∷ (480 ∷ 324 ∷ []) ∷ (224 ∷ 612 ∷ []) ∷ (224 ∷ 36 ∷ []) ∷ (352 ∷ 468 ∷ []) ∷ (96 ∷ 180 ∷ []) ∷ [],
    )
    -- Table 10-13, PIDS frame 0: block 0, row 18, column 36 p + 1
    ∷ (
      first_turn pids_position,
      (18 ∷ 361 ∷ []) ∷ (18 ∷ 73 ∷ []) ∷ (18 ∷ 649 ∷ []) ∷ (18 ∷ 217 ∷ []) ∷ (18 ∷ 505 ∷ [])
          ∷ (18 ∷ 289 ∷ []) ∷ (18 ∷ 577 ∷ []) ∷ (18 ∷ 1 ∷ []) ∷ (18 ∷ 433 ∷ []) ∷ (18 ∷ 145 ∷ [])
          ∷ (18 ∷ 397 ∷ []) ∷ (18 ∷ 109 ∷ []) ∷ (18 ∷ 685 ∷ []) ∷ (18 ∷ 253 ∷ []) ∷ (18 ∷ 541 ∷ [])
          ∷ (18 ∷ 325 ∷ []) ∷ (18 ∷ 613 ∷ []) ∷ (18 ∷ 37 ∷ []) ∷ (18 ∷ 469 ∷ []) ∷ (18 ∷ 181 ∷ []) ∷ [],
    )
    -- Table 10-15, MP2: two steps go to partition 0, and then four to each in turn; partition 1 begins in block 7
    ∷ (
      map (λ i. place 0 i / 72 ∷ place 0 i % 72 ∷ []) (0 ∷ 1 ∷ 2 ∷ 3 ∷ 4 ∷ 5 ∷ 6 ∷ 9 ∷ 10 ∷ []),
      (0 ∷ 0 ∷ []) ∷ (32 ∷ 11 ∷ []) ∷ (224 ∷ 36 ∷ []) ∷ (256 ∷ 47 ∷ []) ∷ (288 ∷ 58 ∷ [])
          ∷ (320 ∷ 69 ∷ []) ∷ (64 ∷ 22 ∷ []) ∷ (161 ∷ 19 ∷ []) ∷ (353 ∷ 44 ∷ []) ∷ [],
    )
    ∷ []
