-- Document 02, S-4: the sixteen PIDS places of an L1 frame, shared by eight sources. A list of eight numbers has one for each source.
use Rattle.std.specs.Prelude.{ℕ, zero, suc, ◌+◌, ◌-◌, ◌%◌, min, Bool, cond, ◌&&◌, List, [], ◌++◌, eqb, ltb, get_or, length, replicate, set}
use Rattle.bits.specs.Listed.{listed}
use Rattle.allocation.specs.declared.Grants.{Grants}
use Rattle.runs.specs.declared.Answer.{Answer}
use Rattle.runs.specs.declared.Answer.TheVariants.{Success, WrongLength, SharesTooMany}

-- the sum for sources 0 to k - 1
unfoldable pub total : ℕ → List ℕ → ℕ
total zero numbers = 0
total (suc k) numbers = total k numbers + get_or numbers k 0

-- each first gets the smaller of its share and its count
unfoldable pub smaller : (shares waiting : List ℕ) → List ℕ
smaller shares waiting = listed 8 (λ d. min (get_or shares d 0) (get_or waiting d 0))

-- what is given so, and the places left over
unfoldable pub first : (shares waiting : List ℕ) → Grants
first shares waiting = record { given = smaller shares waiting; left = 16 - total 8 (smaller shares waiting) }

-- a place is left, and source d still has messages
abbrev pub takes : List ℕ → ℕ → Grants → Bool
takes waiting d s = ltb 0 s.left && ltb (get_or s.given d 0) (get_or waiting d 0)

-- the turn of source d: one place to it, if one is left and it still has messages
unfoldable pub turn : List ℕ → ℕ → Grants → Grants
turn waiting d s = cond (takes waiting d s) (record { given = set s.given d (get_or s.given d 0 + 1); left = s.left - 1 }) s

-- after n turns, which go from source 0 upward, round after round
unfoldable pub turns : (shares waiting : List ℕ) → ℕ → Grants
turns shares waiting zero = first shares waiting
turns shares waiting (suc n) = turn waiting (n % 8) (turns shares waiting n)

-- sixteen rounds of eight: by then no place is left or nobody has messages, and further turns change nothing (`settled`; docs/DECISIONS.md D56)
unfoldable pub granted : (shares waiting : List ℕ) → Grants
granted shares waiting = turns shares waiting 128

-- source by source, the lowest first: k sources from source d on
unfoldable pub by_source : ℕ → ℕ → List ℕ → List ℕ
by_source zero d given = []
by_source (suc k) d given = replicate (get_or given d 0) d ++ by_source k (suc d) given

-- remaining places carry a frame of zeros: 255
unfoldable pub places_of : Grants → List ℕ
places_of s = by_source 8 0 s.given ++ replicate s.left 255

-- ---- the call

-- what it answers, and the place list that it leaves
pub record Outcome : Type 0 where
  pub answer : Answer
  pub places : List ℕ

abbrev pub outcome : Answer → List ℕ → Outcome
outcome answer places = record { answer = answer; places = places }

-- a list of another length than sixteen is refused, then shares that add up to more than sixteen (docs/DECISIONS.md D55)
unfoldable pub shared : (shares waiting places : List ℕ) → Outcome
shared shares waiting places =
    cond (eqb (length places) 16)
    (cond (ltb 16 (total 8 shares)) (outcome SharesTooMany places) (outcome Success (places_of (granted shares waiting))))
    (outcome (WrongLength 0) places)
