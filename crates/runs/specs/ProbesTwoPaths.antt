-- Points of our own for MP5 and MP6, worked by hand from 9.2, Figure 10-5 and Tables 10-12 and 10-13, as what the definitions give beside what the hand gave. The
-- laws leave them open: a delay of any length comes back, and so does P2 wherever it stands in U. Those of PX2 are in `interleaving/specs/PointsPX2.antt`.
use Rattle.std.specs.Prelude.{List, [], ◌∷◌, map, ℕ, zero, suc, ◌+◌, ◌*◌, get_or, replicate}
use Rattle.interleaving.specs.PM.{p1_position}
use Rattle.interleaving.specs.Points.{row_column}
use Rattle.runs.specs.declared.Main.{Main}
use Rattle.runs.specs.declared.Main.TheVariants.{Mp5, Mp6}
use Rattle.runs.specs.MainChannels.{p1_len, delay_len}
use Rattle.runs.specs.Chain.{Buffer, multiplexed}
use Rattle.runs.specs.Paths.{oldest, waiting}
use Rattle.runs.specs.Probes.{Point}

-- ---- PM: row and column of a bit of U

abbrev pm_point : ℕ → List ℕ
pm_point i = row_column (p1_position i)

-- fifteen bits of U from bit i on, of zeros in P1 and a byte of ones at the start of P2
abbrev bits_of_u : Main → ℕ → List ℕ
bits_of_u k i = map (λ d. multiplexed k [] (255 ∷ []) (i + d)) (0 ∷ 1 ∷ 2 ∷ 3 ∷ 4 ∷ 5 ∷ 6 ∷ 7 ∷ 8 ∷ 9 ∷ 10 ∷ 11 ∷ 12 ∷ 13 ∷ 14 ∷ [])

-- ---- 9.2: L1 frame t of a run brings P1 frames of bytes t + 1. What PX2 codes with it: 0 for the delay's zeros, else the byte

unfoldable pub delay_memory : Main → ℕ → Buffer
delay_memory k zero = replicate (delay_len k) 0
delay_memory k (suc t) = waiting k (delay_memory k t) (replicate (p1_len k) (suc t))

abbrev coming : Main → ℕ → ℕ
coming k t = get_or (oldest k (delay_memory k t) (replicate (p1_len k) (suc t))) 0 0

unfoldable pub own_points : List Point
own_points =
    -- P1 frame 1, bit 0; P1 frame 7, bit 11,519; P2, bit 0; P2's last bit
    (pm_point (1 * 11520 + 0), 204 ∷ 360 ∷ [])
    ∷ (pm_point (7 * 11520 + 11519), 85 ∷ 205 ∷ [])
    ∷ (pm_point (8 * 11520 + 0), 192 ∷ 361 ∷ [])
    ∷ (pm_point (8 * 11520 + 273279), 71 ∷ 206 ∷ [])
    -- MP6: P1 frame 1, bit 1; P2, bit 0
    ∷ (pm_point (1 * 23040 + 1), 472 ∷ 72 ∷ [])
    ∷ (pm_point (8 * 23040 + 0), 192 ∷ 362 ∷ [])
    -- P1 comes before P2 in U
    ∷ (bits_of_u Mp5 15, 0 ∷ 0 ∷ 1 ∷ 1 ∷ 1 ∷ 1 ∷ 1 ∷ 0 ∷ 0 ∷ 0 ∷ 1 ∷ 1 ∷ 0 ∷ 0 ∷ 1 ∷ [])
    ∷ (bits_of_u Mp5 (8 * 11520 + 15), 1 ∷ 1 ∷ 0 ∷ 0 ∷ 0 ∷ 1 ∷ 1 ∷ 0 ∷ 0 ∷ 1 ∷ 0 ∷ 1 ∷ 0 ∷ 0 ∷ 0 ∷ [])
    ∷ (bits_of_u Mp6 15, 0 ∷ 0 ∷ 1 ∷ 1 ∷ 1 ∷ 1 ∷ 1 ∷ 0 ∷ 0 ∷ 0 ∷ 1 ∷ 1 ∷ 0 ∷ 0 ∷ 1 ∷ [])
    ∷ (bits_of_u Mp6 (8 * 23040 + 15), 1 ∷ 1 ∷ 0 ∷ 0 ∷ 0 ∷ 1 ∷ 1 ∷ 0 ∷ 0 ∷ 1 ∷ 0 ∷ 1 ∷ 0 ∷ 0 ∷ 0 ∷ [])
    -- the delay of three L1 frames
    ∷ (map (coming Mp5) (0 ∷ 1 ∷ 2 ∷ 3 ∷ 4 ∷ []), 0 ∷ 0 ∷ 0 ∷ 1 ∷ 2 ∷ [])
    ∷ (map (coming Mp6) (0 ∷ 1 ∷ 2 ∷ 3 ∷ 4 ∷ []), 0 ∷ 0 ∷ 0 ∷ 1 ∷ 2 ∷ [])
    ∷ []
