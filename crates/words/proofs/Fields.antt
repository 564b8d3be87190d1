-- The fields of a word are what it was made of: the shifts and masks of `include/layer1.h`, as quotients and remainders. Assumes nothing.
use Prim.Native.Nat.{ℕ, ◌+◌, ◌*◌, ◌^◌, ◌/◌, ◌%◌, ◌<◌, ◌≤◌}
use mathlib.Core.Path.{◌≡◌, sym, ap, ap₂, ◌∙◌}
use mathlib.Core.Bool.{cond}
use native.Mathlib.Nat.{mul-le-mul}
use native.Mathlib.Omega.{arith}
use lib.Dec.{eqb}
use Rattle.runs.specs.declared.Answer.{Answer}
use Rattle.runs.specs.declared.Answer.TheVariants.{Success, ModeNotCovered, StateNotValid, WrongLength, WrongControl, MainNotCoded, PidsNotCoded, FillNotZero, ExtendedNotCoded, ReservedTooHigh, SharesTooMany, SymbolTooHigh, ScaleNotUsable, MixedControl, NoFrameFits, SeveralFit, WrongBudget, WrongMark, WrongVersion, WrongEnd}
use Rattle.runs.specs.declared.State.{State}
use Rattle.runs.specs.Answers.{number_of, place_of}
use Rattle.decoding.specs.declared.Decoded.{Decoded}
use Rattle.dumps.specs.declared.Verdict.{Verdict}
use Rattle.interleaving.specs.Matrix.{Inside, matrix_row, matrix_column}
use Rattle.queries.specs.Finder.{Channel, none, p1, pids}
use Rattle.queries.specs.Finder as Finder
use Rattle.queries.specs.Places as Places
use Rattle.queries.specs.FinderPX.{Content, none as nothing, coded, fill}
use Rattle.queries.specs.FinderPX as FinderPX
use Rattle.locating.specs.Locator as Locator
use Rattle.locating.specs.LocatorPX as LocatorPX
use Rattle.queries.specs.Lookup as Lookup
use Rattle.queries.specs.LookupFrame as LookupFrame
use Rattle.words.specs.Words.{answer_word, channel_number, content_number, decoded_word, found_px_word, found_word, located_px_word, located_word, looked_up_frame_word, looked_up_word, number_read, outcome_word, placed_word, verdict_word}

pub number_lt : (a : Answer) → number_of a < 2 ^ 8
number_lt Success = omega arith
number_lt ModeNotCovered = omega arith
number_lt StateNotValid = omega arith
number_lt (WrongLength k) = omega arith
number_lt (WrongControl k) = omega arith
number_lt (MainNotCoded k) = omega arith
number_lt (PidsNotCoded k) = omega arith
number_lt (FillNotZero k) = omega arith
number_lt (ExtendedNotCoded k) = omega arith
number_lt ReservedTooHigh = omega arith
number_lt SharesTooMany = omega arith
number_lt SymbolTooHigh = omega arith
number_lt (ScaleNotUsable k) = omega arith
number_lt (MixedControl k) = omega arith
number_lt NoFrameFits = omega arith
number_lt SeveralFit = omega arith
number_lt WrongBudget = omega arith
number_lt WrongMark = omega arith
number_lt WrongVersion = omega arith
number_lt WrongEnd = omega arith

-- the byte of a word at a power of two
abbrev pub byte : ℕ → ℕ → ℕ
byte word at = word / at % 2 ^ 8

pub outcome-fields : (a : Answer) (s : State) → s.mode < 2 ^ 8 → s.half < 2 ^ 8 → s.age < 2 ^ 8 → place_of a < 2 ^ 24
    → (outcome_word a s % 2 ^ 8 ≡ number_of a)
    × (byte (outcome_word a s) (2 ^ 8) ≡ s.mode)
    × (byte (outcome_word a s) (2 ^ 16) ≡ s.half)
    × (byte (outcome_word a s) (2 ^ 24) ≡ s.age)
    × (outcome_word a s / 2 ^ 32 % 2 ^ 24 ≡ place_of a)
    × (outcome_word a s / 2 ^ 56 ≡ s.reserved)
unfolding outcome_word
outcome-fields a s m h g p =
    let n = number_lt a in
    (omega arith, omega arith, omega arith, omega arith, omega arith, omega arith)

-- so is the number that a reading returned
pub number-told : (a : Answer) (s : State) (r : ℕ) → s.mode < 2 ^ 8 → s.half < 2 ^ 8 → s.age < 2 ^ 8 → place_of a < 2 ^ 24 → r ≡ outcome_word a s
    → (r ≡ outcome_word a s) × (number_read r ≡ cond (eqb (number_of a) 0) s.reserved 0)
unfolding number_read
number-told a s r m h g p e =
    let f = outcome-fields a s m h g p in
    let n : r % 2 ^ 8 ≡ number_of a = ap (λ (w : ℕ). w % 2 ^ 8) e ∙ f.0 in
    let z : r / 2 ^ 56 ≡ s.reserved = ap (λ (w : ℕ). w / 2 ^ 56) e ∙ f.5 in
    (e, ap₂ (λ (x y : ℕ). cond (eqb x 0) y 0) n z)

-- the number that stands for a channel or a content
channel-lt : (c : Channel) → channel_number c < 2 ^ 8
channel-lt none = omega arith
channel-lt p1 = omega arith
channel-lt pids = omega arith

content-lt : (c : Content) → content_number c < 2 ^ 8
content-lt nothing = omega arith
content-lt coded = omega arith
content-lt fill = omega arith

abbrev pub Small : Finder.Values → Type 0
Small v = (v.place < 2 ^ 8) × (v.frame < 2 ^ 8) × (v.bit < 2 ^ 24)

pub found-fields : (v : Finder.Values) → v.number < 2 ^ 8 → Small v
    → (found_word v % 2 ^ 8 ≡ v.number)
    × (byte (found_word v) (2 ^ 8) ≡ channel_number v.channel)
    × (byte (found_word v) (2 ^ 16) ≡ v.frame)
    × (byte (found_word v) (2 ^ 32) ≡ v.place)
    × (found_word v / 2 ^ 40 ≡ v.bit)
unfolding found_word
found-fields v n (p, f, b) =
    let c = channel-lt v.channel in
    (omega arith, omega arith, omega arith, omega arith, omega arith)

abbrev pub SmallPlace : Places.Values → Type 0
SmallPlace v = (v.place < 2 ^ 8) × Inside 20 16 36 v.position

pub placed-fields : (v : Places.Values) → v.number < 2 ^ 8 → SmallPlace v
    → (placed_word v % 2 ^ 8 ≡ v.number)
    × (byte (placed_word v) (2 ^ 8) ≡ v.position.block)
    × (byte (placed_word v) (2 ^ 16) ≡ v.position.row)
    × (byte (placed_word v) (2 ^ 24) ≡ v.position.partition)
    × (byte (placed_word v) (2 ^ 32) ≡ v.place)
    × (placed_word v / 2 ^ 40 ≡ v.position.column)
unfolding placed_word
placed-fields v n (p, at) =
    let b = at.block-lt in
    let r = at.row_lt in
    let q = at.partition-lt in
    (omega arith, omega arith, omega arith, omega arith, omega arith, omega arith)

abbrev pub SmallPX : FinderPX.Values → Type 0
SmallPX v = (v.place < 2 ^ 8) × (v.frame < 2 ^ 8) × (v.before < 2 ^ 8) × (v.bit < 2 ^ 24)

pub found-px-fields : (v : FinderPX.Values) → v.number < 2 ^ 8 → SmallPX v
    → (found_px_word v % 2 ^ 8 ≡ v.number)
    × (byte (found_px_word v) (2 ^ 8) ≡ content_number v.content)
    × (byte (found_px_word v) (2 ^ 16) ≡ v.frame)
    × (byte (found_px_word v) (2 ^ 24) ≡ v.before)
    × (byte (found_px_word v) (2 ^ 32) ≡ v.place)
    × (found_px_word v / 2 ^ 40 ≡ v.bit)
unfolding found_px_word
found-px-fields v n (p, f, e, b) =
    let c = content-lt v.content in
    (omega arith, omega arith, omega arith, omega arith, omega arith, omega arith)

abbrev pub SmallLocated : Locator.Values → Type 0
SmallLocated v = (v.place < 2 ^ 8) × Inside 20 16 36 v.position

-- row and column of PM too, where they are those of the position
pub located-fields : (v : Locator.Values) → v.number < 2 ^ 8 → SmallLocated v → v.row ≡ matrix_row v.position → v.column ≡ matrix_column 36 v.position
    → (located_word v % 2 ^ 8 ≡ v.number)
    × (byte (located_word v) (2 ^ 8) ≡ v.position.block)
    × (byte (located_word v) (2 ^ 16) ≡ v.position.row)
    × (byte (located_word v) (2 ^ 24) ≡ v.position.partition)
    × (byte (located_word v) (2 ^ 32) ≡ v.place)
    × (located_word v / 2 ^ 40 ≡ v.position.column)
    × (32 * byte (located_word v) (2 ^ 8) + byte (located_word v) (2 ^ 16) ≡ v.row)
    × (36 * byte (located_word v) (2 ^ 24) + located_word v / 2 ^ 40 ≡ v.column)
unfolding located_word matrix_row matrix_column
located-fields v n s row column =
    let (n', b, r, q, p, c) = placed-fields (record { number = v.number; place = v.place; position = v.position }) n s in
    (n', b, r, q, p, c, rw (b, r) (sym row), rw (q, c) (sym column))

abbrev pub SmallLocatedPX : LocatorPX.Values → Type 0
SmallLocatedPX v = (v.place < 2 ^ 8) × (v.after < 2 ^ 8) × (v.pair < 2 ^ 8) × (v.row < 2 ^ 8) × (v.column < 2 ^ 24)

pub located-px-fields : (v : LocatorPX.Values) → v.number < 2 ^ 8 → SmallLocatedPX v
    → (located_px_word v % 2 ^ 8 ≡ v.number)
    × (byte (located_px_word v) (2 ^ 8) ≡ v.pair)
    × (byte (located_px_word v) (2 ^ 16) ≡ v.row)
    × (byte (located_px_word v) (2 ^ 24) ≡ v.after)
    × (byte (located_px_word v) (2 ^ 32) ≡ v.place)
    × (located_px_word v / 2 ^ 40 ≡ v.column)
unfolding located_px_word
located-px-fields v n (p, a, q, r, c) = (omega arith, omega arith, omega arith, omega arith, omega arith, omega arith)

pub looked-up-fields : (v : Lookup.Values) → v.number < 2 ^ 8 → v.mode < 2 ^ 8 → v.count < 2 ^ 8 → v.reserved < 2 ^ 8
    → (looked_up_word v % 2 ^ 8 ≡ v.number)
    × (byte (looked_up_word v) (2 ^ 8) ≡ v.mode)
    × (byte (looked_up_word v) (2 ^ 16) ≡ v.count)
    × (byte (looked_up_word v) (2 ^ 24) ≡ v.reserved)
    × (looked_up_word v / 2 ^ 32 ≡ v.place)
unfolding looked_up_word
looked-up-fields v n m c z = (omega arith, omega arith, omega arith, omega arith, omega arith)

pub looked-up-frame-fields : (v : LookupFrame.Values) → v.number < 2 ^ 8 → v.mode < 2 ^ 8 → v.reserved < 2 ^ 8
    → (looked_up_frame_word v % 2 ^ 8 ≡ v.number)
    × (byte (looked_up_frame_word v) (2 ^ 8) ≡ v.mode)
    × (byte (looked_up_frame_word v) (2 ^ 24) ≡ v.reserved)
    × (looked_up_frame_word v / 2 ^ 32 ≡ v.place)
unfolding looked_up_frame_word
looked-up-frame-fields v n m z = (omega arith, omega arith, omega arith, omega arith)

abbrev pub SmallDecoded : Decoded → Type 0
SmallDecoded d = (d.distance < 2 ^ 8) × (d.margin < 2 ^ 8) × (place_of d.answer < 2 ^ 32)

pub decoded-fields : (d : Decoded) → SmallDecoded d
    → (decoded_word d % 2 ^ 8 ≡ number_of d.answer)
    × (byte (decoded_word d) (2 ^ 8) ≡ d.distance)
    × (byte (decoded_word d) (2 ^ 16) ≡ d.margin)
    × (decoded_word d / 2 ^ 32 ≡ place_of d.answer)
unfolding decoded_word
decoded-fields d (h, l, p) =
    let n = number_lt d.answer in
    (omega arith, omega arith, omega arith, omega arith)

pub verdict-fields : (v : Verdict) → v.frame < 2 ^ 16
    → (verdict_word v % 2 ^ 8 ≡ number_of v.answer)
    × (verdict_word v / 2 ^ 16 % 2 ^ 16 ≡ v.frame)
    × (verdict_word v / 2 ^ 32 ≡ place_of v.answer)
unfolding verdict_word
verdict-fields v f =
    let n = number_lt v.answer in
    (omega arith, omega arith, omega arith)

pub answer-fields : (a : Answer) → (answer_word a % 2 ^ 8 ≡ number_of a) × (answer_word a / 2 ^ 32 ≡ place_of a)
unfolding answer_word
answer-fields a = let n = number_lt a in (omega arith, omega arith)

-- where a row starts
pub start-lt : (row n : ℕ) → n < 256 → row < 512 → row * n < 2 ^ 32
start-lt row n h l =
    let r : row ≤ 511 = omega arith in
    let k : n ≤ 255 = omega arith in
    omega (arith, mul-le-mul r k)
