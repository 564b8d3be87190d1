-- Document 02, S-7: what the program `vector` prints of a symbol, a line for each subcarrier, or what it says of a refusal.
use Rattle.std.specs.Prelude.{ℕ, zero, suc, ◌-◌, Bool, cond, List, [], ◌++◌, eqb, ltb, get_or, replicate, Float}
use Rattle.std.specs.Float.{nan}
use Rattle.runs.specs.Answers.{number_of, on_success, place_of}
use Rattle.text.specs.Letters.{ascii}
use Rattle.messages.specs.Lines.{followed, in_words}
use Rattle.layout.specs.Layout.{signal_in}
use Rattle.points.specs.Points.{zero_part}
use Rattle.subcarriers.specs.declared.Source.{Source}
use Rattle.subcarriers.specs.declared.Source.TheVariants.{Unused, Pm, Px1, Px2, Control}
use Rattle.subcarriers.specs.Tables.{source_at}
use Rattle.mapping.specs.Vector.{Vector, filled, points}
use Rattle.vector_step.specs.Numbers.{part_text}

-- the number of the subcarrier of element k, k - 546
unfoldable pub subcarrier : ℕ → List ℕ
subcarrier k = cond (ltb k 546) (ascii "-" ++ followed (546 - k) (ascii " ")) (followed (k - 546) (ascii " "))

-- what it carries: the matrix and the first of two columns, the column of the control, or nothing
unfoldable pub source_text : Source → List ℕ
source_text Unused = ascii "-\n"
source_text (Pm c) = ascii "PM " ++ followed c (ascii "\n")
source_text (Px1 c) = ascii "PX1 " ++ followed c (ascii "\n")
source_text (Px2 c) = ascii "PX2 " ++ followed c (ascii "\n")
source_text (Control c) = ascii "R " ++ followed c (ascii "\n")

-- the line of element k: its number, its real part, its imaginary part, and what it carries
unfoldable pub line : (mode k : ℕ) (re im : Float) → List ℕ
line mode k re im = subcarrier k ++ (part_text re ++ (ascii " " ++ (part_text im ++ (ascii " " ++ source_text (source_at mode k)))))

-- the lines of the first n elements; `nan` is what is read past the end of a list
unfoldable pub lines : (mode : ℕ) (re im : List Float) (n : ℕ) → List ℕ
lines mode re im zero = []
lines mode re im (suc k) = lines mode re im k ++ line mode k (get_or re k nan) (get_or im k nan)

-- whether a symbol's vector was filled, and the bytes: what is printed, or the lines that are said
pub record Text : Type 0 where
  pub done : Bool
  pub bytes : List ℕ

abbrev pub text : Bool → List ℕ → Text
text done bytes = record { done = done; bytes = bytes }

-- of a filling
unfoldable pub text_of : ℕ → Vector → Text
text_of mode v =
    text (eqb (number_of v.answer) 0)
    (on_success v.answer (lines mode v.re v.im points) (in_words (number_of v.answer) (place_of v.answer) 0))

-- of a symbol of the L1 frame in these bytes
unfoldable pub vector_text : (mode symbol : ℕ) (lower upper : Float) → List ℕ → Text
vector_text mode symbol lower upper bytes =
    text_of mode (filled mode symbol lower upper (signal_in mode bytes) (replicate points zero_part) (replicate points zero_part))
