-- A part of the vector as the program `vector` prints it: in decimal, exactly.
use Rattle.std.specs.Prelude.{ℕ, zero, suc, ◌+◌, ◌*◌, ◌/◌, ◌%◌, ◌^◌, cond, List, [], ◌∷◌, ◌++◌, eqb, Float}
use Rattle.std.specs.Float.{nan, inf, fin}
use Rattle.std.specs.Float.Ieee.{up, down, lt}
use Rattle.text.specs.Letters.{ascii}
use Rattle.text.specs.Numbers.{decimal}
use Rattle.points.specs.Points.{zero_part}

-- how many times 2^-16 a number of single precision is, without its sign; of a scale and its negation there is no rest
unfoldable pub times_in : Float → ℕ
times_in nan = 0
times_in (inf s) = 0
times_in (fin s m e) = m * up e * 65536 / down e

-- n in k decimal digits, without the zeros at its end
unfoldable pub digits : (k n : ℕ) → List ℕ
digits zero n = []
digits (suc k) n = cond (eqb n 0) [] ((48 + n / 10 ^ k) ∷ digits k (n % 10 ^ k))

-- n times 2^-16 below 1: n * 5^16 in sixteen digits behind a point; nothing of 0
unfoldable pub fraction : ℕ → List ℕ
fraction n = cond (eqb n 0) [] (ascii "." ++ digits 16 (n * 5 ^ 16))

-- n times 2^-16
unfoldable pub exactly : ℕ → List ℕ
exactly n = decimal (n / 65536) ++ fraction (n % 65536)

-- a part, with a minus where it is below zero
unfoldable pub part_text : Float → List ℕ
part_text part = cond (lt part zero_part) (ascii "-" ++ exactly (times_in part)) (exactly (times_in part))
