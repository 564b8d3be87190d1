-- House matter: what a function of the C library returns beside its buffers is one word of 64 bits. Each field is a number below the distance to the next one, number 0 is success.
use Rattle.std.specs.Prelude.{ℕ, ◌+◌, ◌*◌, ◌^◌, ◌/◌, ◌%◌, cond, List, eqb, length, take, drop}
use Rattle.bits.specs.Listed.{listed}
use Rattle.runs.specs.declared.Answer.{Answer}
use Rattle.runs.specs.declared.State.{State}
use Rattle.runs.specs.Answers.{number_of, place_of}
use Rattle.decoding.specs.declared.Decoded.{Decoded}
use Rattle.dumps.specs.declared.Verdict.{Verdict}
use Rattle.queries.specs.Finder.{Channel, none, p1, pids}
use Rattle.queries.specs.Finder as Finder
use Rattle.queries.specs.Places as Places
use Rattle.queries.specs.FinderPX.{Content, none as nothing, coded, fill}
use Rattle.queries.specs.FinderPX as FinderPX
use Rattle.locating.specs.Locator as Locator
use Rattle.locating.specs.LocatorPX as LocatorPX
use Rattle.queries.specs.Lookup as Lookup
use Rattle.queries.specs.LookupFrame as LookupFrame

-- a state crosses as its four numbers
abbrev pub state_of : (mode half age last : ℕ) → State
state_of mode half age last = record { mode = mode; half = half; age = age; reserved = last }

-- a start, a sending, a reading: the answer and the state
unfoldable pub outcome_word : Answer → State → ℕ
outcome_word a s = number_of a + 2 ^ 8 * s.mode + 2 ^ 16 * s.half + 2 ^ 24 * s.age + 2 ^ 32 * place_of a + 2 ^ 56 * s.reserved

-- the reserved number that a reading returned: on success the state holds it, and with any refusal it is 0
unfoldable pub number_read : ℕ → ℕ
number_read word = cond (eqb (word % 2 ^ 8) 0) (word / 2 ^ 56) 0

-- the channels of PM by number
abbrev pub channel_number : Channel → ℕ
channel_number none = 0
channel_number p1 = 1
channel_number pids = 2

-- the cell finder of PM
unfoldable pub found_word : Finder.Values → ℕ
found_word v = v.number + 2 ^ 8 * channel_number v.channel + 2 ^ 16 * v.frame + 2 ^ 32 * v.place + 2 ^ 40 * v.bit

-- the position of a row and a column of PM
unfoldable pub placed_word : Places.Values → ℕ
placed_word v =
    let p = v.position in
    v.number + 2 ^ 8 * p.block + 2 ^ 16 * p.row + 2 ^ 24 * p.partition + 2 ^ 32 * v.place + 2 ^ 40 * p.column

-- what stands in a cell of PX1 or PX2
abbrev pub content_number : Content → ℕ
content_number nothing = 0
content_number coded = 1
content_number fill = 2

-- the cell finder of PX1 and PX2
unfoldable pub found_px_word : FinderPX.Values → ℕ
found_px_word v = v.number + 2 ^ 8 * content_number v.content + 2 ^ 16 * v.frame + 2 ^ 24 * v.before + 2 ^ 32 * v.place + 2 ^ 40 * v.bit

-- the cell of PM that a coded bit of P1 or PIDS goes into: its position, as for a row and a column
unfoldable pub located_word : Locator.Values → ℕ
located_word v = placed_word (record { number = v.number; place = v.place; position = v.position })

-- the cell of PX1 or PX2 that a coded bit of P3 or P4 goes into, and how many L1 frames later it is sent
unfoldable pub located_px_word : LocatorPX.Values → ℕ
located_px_word v = v.number + 2 ^ 8 * v.pair + 2 ^ 16 * v.row + 2 ^ 24 * v.after + 2 ^ 32 * v.place + 2 ^ 40 * v.column

-- a lookup
unfoldable pub looked_up_word : Lookup.Values → ℕ
looked_up_word v = v.number + 2 ^ 8 * v.mode + 2 ^ 16 * v.count + 2 ^ 24 * v.reserved + 2 ^ 32 * v.place

-- a lookup of an L1 frame's control: the fields of a lookup, without a count
unfoldable pub looked_up_frame_word : LookupFrame.Values → ℕ
looked_up_frame_word v = v.number + 2 ^ 8 * v.mode + 2 ^ 24 * v.reserved + 2 ^ 32 * v.place

-- a row of n bytes that is handed back: where it starts and how many bytes it has, and 0 where it is empty
unfoldable pub row_word : (n row : ℕ) → List ℕ → ℕ
row_word n row part = cond (eqb (length part) 0) 0 (row * n + 2 ^ 32 * length part)

-- the part of a matrix that such a word tells
abbrev pub part_at : ℕ → List ℕ → List ℕ
part_at word matrix = take (word / 2 ^ 32) (drop (word % 2 ^ 32) matrix)

-- it is a part of PX2 for channel 4, and else of PX1
abbrev pub chosen : ℕ → List ℕ → List ℕ → List ℕ
chosen channel px1 px2 = cond (eqb channel 4) px2 px1

-- a search for the nearest frame: the answer, the distance and the margin
unfoldable pub decoded_word : Decoded → ℕ
decoded_word d = number_of d.answer + 2 ^ 8 * d.distance + 2 ^ 16 * d.margin + 2 ^ 32 * place_of d.answer

-- a verdict on a dump
unfoldable pub verdict_word : Verdict → ℕ
verdict_word v = number_of v.answer + 2 ^ 16 * v.frame + 2 ^ 32 * place_of v.answer

-- an answer alone
unfoldable pub answer_word : Answer → ℕ
answer_word a = number_of a + 2 ^ 32 * place_of a

-- eight numbers of a byte cross as one word: number d weighs 2 ^ (8 * d)
unfoldable pub eight_of : ℕ → List ℕ
eight_of word = listed 8 (λ d. word / 2 ^ (8 * d) % 2 ^ 8)
