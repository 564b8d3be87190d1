-- Document 01's probe points asked from the bit, and points of our own for P3 in MP3, worked by hand: what the locators give beside what the document or the hand
-- gave. Of P3 bit 0 goes to partition 0, bit 2 to 1, bit 4 to 2, bit 6 to 3, whose entries 0 lie in blocks 0, 7, 14 and 21 of 32 rows; a matrix takes 512 rows.
use Rattle.std.specs.Prelude.{List, [], ◌∷◌, ℕ}
use Rattle.runs.specs.Starting.{fresh}
use Rattle.locating.specs.Locator as PM
use Rattle.locating.specs.LocatorPX as PX

-- row and column of PM; how many L1 frames later, block pair, row and column
abbrev in_pm : PM.Values → List ℕ
in_pm v = v.row ∷ v.column ∷ []

abbrev in_px : PX.Values → List ℕ
in_px v = v.after ∷ v.pair ∷ v.row ∷ v.column ∷ []

abbrev pm : (channel frame bit : ℕ) → List ℕ
pm channel frame bit = in_pm (PM.values (PM.located channel frame bit))

abbrev px : (bit : ℕ) → List ℕ
px bit = in_px (PX.values (PX.located_px (fresh 3) 3 0 bit))

unfoldable pub located_points : List (List ℕ × List ℕ)
located_points =
    (pm 1 0 0, 192 ∷ 360 ∷ [])
    ∷ (pm 1 0 1, 448 ∷ 72 ∷ [])
    ∷ (pm 1 0 20, 224 ∷ 360 ∷ [])
    ∷ (pm 1 0 320, 203 ∷ 371 ∷ [])
    ∷ (pm 1 0 365439, 71 ∷ 206 ∷ [])
    ∷ (pm 2 0 0, 18 ∷ 361 ∷ [])
    ∷ (pm 2 15 199, 501 ∷ 208 ∷ [])
    ∷ (px 0, 0 ∷ 0 ∷ 0 ∷ 0 ∷ [])
    ∷ (px 2, 0 ∷ 3 ∷ 32 ∷ 36 ∷ [])
    ∷ (px 4, 0 ∷ 7 ∷ 0 ∷ 72 ∷ [])
    ∷ (px 6, 1 ∷ 2 ∷ 32 ∷ 108 ∷ [])
    ∷ []
