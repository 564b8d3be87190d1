-- Points of our own, worked out by a script of ten lines from sections 8.2 and 9.3: for frames of zeros, so that only the scrambler's bits are added. What the definition
-- gives beside what the script gave: number, generator, sum, coded bit, and the scrambler's seven bits.
use Rattle.std.specs.Prelude.{List, [], ◌∷◌, ℕ, replicate}
use Rattle.runs.specs.Starting.{fresh}
use Rattle.workings.specs.declared.Worked.{Worked}
use Rattle.workings.specs.Shown.{worked}

abbrev pub Numbers : Type 0
Numbers = List ℕ

abbrev row : Worked → Numbers
row w = w.number ∷ w.generator ∷ w.sum ∷ w.coded ∷ w.scrambling

abbrev point : (mode channel : ℕ) → Numbers → (frame bit : ℕ) → Numbers
point mode channel frames frame bit = row (worked (fresh mode) channel frames frame bit)

abbrev zeros : Numbers
zeros = replicate 160 0

unfoldable pub worked_points : List (Numbers × Numbers)
worked_points =
    (point 1 2 zeros 0 0, 0 ∷ 91 ∷ 1 ∷ 1 ∷ 0 ∷ 0 ∷ 1 ∷ 0 ∷ 1 ∷ 0 ∷ 0 ∷ [])
    ∷ (point 1 2 zeros 0 2, 0 ∷ 117 ∷ 2 ∷ 0 ∷ 0 ∷ 0 ∷ 1 ∷ 0 ∷ 1 ∷ 0 ∷ 0 ∷ [])
    ∷ (point 11 2 zeros 15 199, 79 ∷ 121 ∷ 2 ∷ 0 ∷ 0 ∷ 1 ∷ 0 ∷ 1 ∷ 0 ∷ 0 ∷ 0 ∷ [])
    ∷ (point 3 3 [] 7 9215, 4607 ∷ 117 ∷ 2 ∷ 0 ∷ 1 ∷ 0 ∷ 0 ∷ 1 ∷ 1 ∷ 0 ∷ 0 ∷ [])
    ∷ (point 2 3 [] 0 0, 0 ∷ 91 ∷ 1 ∷ 1 ∷ 0 ∷ 0 ∷ 0 ∷ 1 ∷ 1 ∷ 0 ∷ 0 ∷ [])
    ∷ []
