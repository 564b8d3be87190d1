-- House matter: what a sheet says of the run of an input, L1 frame by L1 frame.
use Rattle.std.specs.Prelude.{ℕ, suc, List, [], ◌∷◌, ◌++◌, Option}
use Rattle.runs.specs.declared.Answer.{Answer}
use Rattle.runs.specs.Answers.{number_of, on_success, place_of}
use Rattle.runs.specs.Runs.{Call}
use Rattle.text.specs.Letters.{ascii}
use Rattle.sheetlines.specs.declared.entries.Entry.{Entry}
use Rattle.sheettext.specs.Texts.{ending, last, value_in, word}
use Rattle.sheetlists.specs.Lists.{answered, answers, valued}

-- the first L1 frame that is refused, and its answer's number and place
unfoldable pub no_frame : ℕ → Answer → List ℕ
no_frame t answer = ascii "NO SHEET FRAME " ++ (word t ++ (ascii "NUMBER " ++ (word (number_of answer) ++ (ascii "PLACE " ++ last (place_of answer)))))

-- the answers that say LATER, whose cells are sent after the last L1 frame: no value is asked for
unfoldable pub unsent : (working : Option Entry → List ℕ) (mode count : ℕ) (list : List (List ℕ)) → List ℕ
unsent working mode count list = answers (valued working count (λ e. 0)) mode count count list

-- behind the text so far, the answers from L1 frame t on, with the bits that stand in the matrices sent and the workings below, those that say LATER, and the last line; an L1 frame
-- that is refused leaves no sheet
unfoldable pub told : (working : Option Entry → List ℕ) (mode count : ℕ) (list : List (List ℕ)) (t : ℕ) (text : List ℕ) → List Call → List ℕ
told working mode count list t text [] = text ++ (unsent working mode count list ++ ending (answered mode count list))
told working mode count list t text (c ∷ cs) =
    on_success c.result.answer
    (told working mode count list (suc t) (text ++ answers (valued working count (value_in c.result.lent.signal.matrices)) mode count t list) cs)
    (no_frame t c.result.answer)
