-- Document 02, S-13: the first eight bytes of a dump.
use Rattle.std.specs.Prelude.{ℕ, not, ◌||◌, List, [], ◌∷◌, eqb, ltb, length, get_or, take}
use Rattle.bits.specs.Tests.{same}
use Rattle.control.specs.Modes.{covered}
use Rattle.runs.specs.declared.Answer.{Answer}
use Rattle.runs.specs.declared.Answer.TheVariants.{ModeNotCovered, WrongMark, WrongVersion}
use Rattle.runs.specs.Causes.{judge, when}
use Rattle.layout.specs.Layout.{mark, word}

-- they are refused as 17, then 18, then 1
unfoldable pub head_answer : List ℕ → Answer
head_answer dump =
    judge
    (when (ltb (length dump) 8 || not (same (take 3 dump) mark)) WrongMark
    ∷ when (not (eqb (word (get_or dump 3 0) (get_or dump 4 0)) 1)) WrongVersion
    ∷ when (not (covered (get_or dump 5 0))) ModeNotCovered
    ∷ [])
