-- Points of our own for PX2 in MP5 and MP6, worked by hand from Tables 10-17 and 10-19: matrix, row and column of coded bit i of the eight P1' frames, as what the
-- definitions give beside what the hand gave. That each cell is met once does not tell M, the partition order or the matrix of a frame.
use Rattle.std.specs.Prelude.{List, [], ◌∷◌, ℕ, ◌+◌, ◌*◌, ◌/◌, ◌%◌}
use Rattle.interleaving.specs.PX2.{place, partitions, frame_bits}

abbrev px2_point : (row i : ℕ) → List ℕ
px2_point row i =
    let c : ℕ = place row i in
    let n : ℕ = 36 * partitions row in
    c / frame_bits row ∷ c % frame_bits row / n ∷ c % frame_bits row % n ∷ []

unfoldable pub px2_points : List (List ℕ × List ℕ)
px2_points =
    -- MP5
    (px2_point 0 0, 0 ∷ 0 ∷ 0 ∷ [])
    ∷ (px2_point 0 1, 0 ∷ 32 ∷ 0 ∷ [])
    ∷ (px2_point 0 2, 0 ∷ 0 ∷ 36 ∷ [])
    ∷ (px2_point 0 8, 0 ∷ 43 ∷ 11 ∷ [])
    ∷ (px2_point 0 9, 0 ∷ 11 ∷ 11 ∷ [])
    ∷ (px2_point 0 2304, 0 ∷ 0 ∷ 1 ∷ [])
    ∷ (px2_point 0 (5 * 9216 + 9215), 5 ∷ 21 ∷ 136 ∷ [])
    -- MP6
    ∷ (px2_point 1 0, 0 ∷ 0 ∷ 0 ∷ [])
    ∷ (px2_point 1 1, 0 ∷ 32 ∷ 36 ∷ [])
    ∷ (px2_point 1 2, 0 ∷ 32 ∷ 108 ∷ [])
    ∷ (px2_point 1 3, 0 ∷ 0 ∷ 72 ∷ [])
    ∷ (px2_point 1 6, 0 ∷ 32 ∷ 252 ∷ [])
    ∷ (px2_point 1 8, 0 ∷ 32 ∷ 0 ∷ [])
    ∷ (px2_point 1 16, 0 ∷ 11 ∷ 11 ∷ [])
    ∷ (px2_point 1 (5 * 18432 + 18431), 5 ∷ 53 ∷ 244 ∷ [])
    ∷ []
