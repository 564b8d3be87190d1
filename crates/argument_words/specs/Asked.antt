-- House matter: what the words of a program ask for; others than these are wrong.
use Rattle.std.specs.Prelude.{ℕ, ◌%◌, Bool, true, false, cond, List, [], ◌∷◌, eqb, Option, Some, None}
use Rattle.bits.specs.Tests.{same}
use Rattle.text.specs.Letters.{ascii}
use Rattle.operands.specs.Operands.{operand_of}
use Rattle.arguments.specs.Arguments.{arguments_of}
use Rattle.arguments.specs.declared.Run.{Run}
use Rattle.argument_words.specs.Words.{ended, ends_with, first, others, without}
use Rattle.argument_words.specs.declared.asked.Without.{Without}
use Rattle.argument_words.specs.declared.asked.Asked.{Asked}
use Rattle.argument_words.specs.declared.asked.Summed.{Summed}

-- MODE COUNT
unfoldable pub mode_and_count : List ℕ → Option Run
mode_and_count text = arguments_of (operand_of (first text)) (operand_of (first (others text)))

-- the channels without data
abbrev pub channels : (p3 p4 : Bool) → Option Without
channels p3 p4 = Some (record { p3 = p3; p4 = p4 })

-- S-5: [without P3|P4|P3 P4]
unfoldable pub channels_in : List ℕ → Option Without
channels_in text =
    cond (same text []) (channels false false)
    (cond (same text (ended (ascii "without" ∷ ascii "P3" ∷ []))) (channels true false)
    (cond (same text (ended (ascii "without" ∷ ascii "P4" ∷ []))) (channels false true)
    (cond (same text (ended (ascii "without" ∷ ascii "P3" ∷ ascii "P4" ∷ []))) (channels true true) None)))

-- of a program that takes no such words
unfoldable pub none_in : List ℕ → Option Without
none_in text = cond (same text []) (channels false false) None

abbrev pub asked : Option Run → Option Without → Bool → Option Asked
asked (Some run) (Some without) last =
    Some (record { mode = run.mode; count = run.count; without3 = without.p3; without4 = without.p4; last = last })
asked (Some run) None last = None
asked None channels last = None

-- MODE COUNT [without P3|P4|P3 P4] [LAST], where the last word, with the zero byte that ends it, may stand or not
unfoldable pub sending_in : (last text : List ℕ) → Option Asked
sending_in last text =
    let behind = others (others text) in
    asked (mode_and_count text) (channels_in (without last behind)) (ends_with last behind)

-- MODE COUNT [LAST]
unfoldable pub reading_in : (last text : List ℕ) → Option Asked
reading_in last text =
    let behind = others (others text) in
    asked (mode_and_count text) (none_in (without last behind)) (ends_with last behind)

-- a number, and nothing behind it
unfoldable pub number_in : List ℕ → Option ℕ
number_in text = cond (same (others text) []) (operand_of (first text)) None

-- the third word, and the fourth
abbrev pub third : List ℕ → List ℕ
third text = first (others (others text))

abbrev pub fourth : List ℕ → List ℕ
fourth text = first (others (others (others text)))

-- S-14: MODE COUNT N, N odd
abbrev pub odd_of : Option Run → Option ℕ → Option Summed
odd_of (Some run) (Some n) = cond (eqb (n % 2) 1) (Some (record { mode = run.mode; count = run.count; runs = n })) None
odd_of (Some run) None = None
odd_of None n = None

unfoldable pub summing_in : List ℕ → Option Summed
summing_in text = cond (same (others (others (others text))) []) (odd_of (mode_and_count text) (operand_of (third text))) None

-- S-7: MODE SYMBOL and two words more, and nothing behind them
unfoldable pub scaled_in : List ℕ → Option Run
scaled_in text = cond (same (others (others (others (others text)))) []) (mode_and_count text) None
