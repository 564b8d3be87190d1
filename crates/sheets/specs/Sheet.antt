-- House matter: the answer sheet for an input of any bytes. A sheet begins with its head and ends with END; where there is none, one line says why.
use Rattle.std.specs.Prelude.{ℕ, ◌*◌, Bool, true, cond, List, ◌++◌, leb, ltb, length}
use Rattle.runs.specs.declared.Extended.TheVariants.{P3, P4}
use Rattle.text.specs.Letters.{ascii}
use Rattle.text.specs.Lines.{lines}
use Rattle.sheettext.specs.Texts.{head, last}
use Rattle.sheetworks.specs.Works.{work_text}
use Rattle.sheetlists.specs.Lists.{refusals}
use Rattle.sheetinputs.specs.Inputs.{behind, carried, empty_line, frame_size, list_in, named, older}
use Rattle.sheetinputs.specs.Run.{sent}
use Rattle.sheetruns.specs.Told.{told}

-- the mode has no sheets; a channel without data that the mode has not; more than 64 L1 frames
unfoldable pub no_mode : List ℕ
no_mode = ascii "NO SHEET MODE\n"

unfoldable pub no_without : List ℕ
no_without = ascii "NO SHEET WITHOUT\n"

unfoldable pub no_count : List ℕ
no_count = ascii "NO SHEET COUNT\n"

-- no empty line behind at most 4,095 bytes; the input ends before there is one
unfoldable pub no_long_list : List ℕ
no_long_list = ascii "NO SHEET LONG LIST\n"

unfoldable pub no_list : List ℕ
no_list = ascii "NO SHEET LIST\n"

-- fewer bytes than the L1 frames have, or more, and how many they have
unfoldable pub no_short : (want : ℕ) → List ℕ
no_short want = ascii "NO SHEET SHORT " ++ last want

unfoldable pub no_long : (want : ℕ) → List ℕ
no_long want = ascii "NO SHEET LONG " ++ last want

-- for a list, and the bytes behind it
unfoldable pub sheet_for : (mode count : ℕ) (without3 without4 work : Bool) (n3 n4 : ℕ) (list bytes : List ℕ) → List ℕ
sheet_for mode count without3 without4 work n3 n4 list bytes =
    let want = count * frame_size mode n3 n4 in
    cond (ltb (length bytes) want) (no_short want)
    (cond (ltb want (length bytes)) (no_long want)
    (told (work_text work mode n3 n4 bytes) mode count (lines list) 0 (head mode count without3 without4 work ++ refusals mode count 1 (lines list)) (sent mode count n3 n4 bytes)))

abbrev pub unless : Bool → List ℕ → List ℕ → List ℕ
unless test refusal text = cond test text refusal

unfoldable pub sheet_of : (mode count : ℕ) (without3 without4 work : Bool) (input : List ℕ) → List ℕ
sheet_of mode count without3 without4 work input =
    unless (older mode) no_mode
    (unless (named mode without3 without4) no_without
    (unless (leb count 64) no_count
    (unless (ltb (empty_line true input) 4096) no_long_list
    (unless (ltb (empty_line true input) (length input)) no_list
    (sheet_for mode count without3 without4 work (carried mode P3 without3) (carried mode P4 without4) (list_in input) (behind input))))))
