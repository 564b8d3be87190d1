-- House matter: the input of an answer sheet: a list of cells, an empty line, and COUNT L1 frames end to end.
use Rattle.std.specs.Prelude.{ℕ, suc, ◌+◌, Bool, true, cond, not, ◌&&◌, ◌||◌, List, [], ◌∷◌, eqb, ltb, get_or, take, drop}
use Rattle.runs.specs.declared.Extended.{Extended}
use Rattle.runs.specs.declared.Extended.TheVariants.{P3, P4}
use Rattle.runs.specs.MainChannels.{main_of, p1_len, p2_len}
use Rattle.runs.specs.Lengths.{frame_len, kind_of, pids_len}
use Rattle.arguments.specs.Arguments.{carried_of, misnamed}
use Rattle.text.specs.Lines.{newline, return}

-- the finders, and so a sheet, keep to MP1, MP2, MP3 and MP11
unfoldable pub older : ℕ → Bool
older mode = eqb mode 1 || (eqb mode 2 || (eqb mode 3 || eqb mode 11))

-- only a channel that the mode has may be said to be without data (S-5)
unfoldable pub named : (mode : ℕ) (without3 without4 : Bool) → Bool
named mode without3 without4 = not (misnamed (frame_len (kind_of mode P3)) without3) && not (misnamed (frame_len (kind_of mode P4)) without4)

-- the bytes of a channel in an L1 frame
abbrev pub carried : (mode : ℕ) → Extended → (without : Bool) → ℕ
carried mode e without = carried_of (frame_len (kind_of mode e)) without

-- how many bytes an empty line has at the start of a text: a newline, or CR and a newline. 0: there is none
unfoldable pub empty_at : List ℕ → ℕ
empty_at text = cond (eqb (get_or text 0 0) newline) 1 (cond (eqb (get_or text 0 0) return && eqb (get_or text 1 0) newline) 2 0)

-- where the empty line stands that ends the list: at the start of a line. Where there is none, at the input's end
unfoldable pub empty_line : (fresh : Bool) → List ℕ → ℕ
empty_line fresh [] = 0
empty_line fresh (b ∷ rest) = cond (fresh && ltb 0 (empty_at (b ∷ rest))) 0 (suc (empty_line (eqb b newline) rest))

-- the list, and what follows the empty line
abbrev pub list_in : List ℕ → List ℕ
list_in input = take (empty_line true input) input

abbrev pub behind : List ℕ → List ℕ
behind input = drop (empty_line true input + empty_at (drop (empty_line true input) input)) input

-- the bytes of an L1 frame: its number, P1, PIDS, P2, and n3 and n4 bytes of P3 and P4
unfoldable pub frame_size : (mode n3 n4 : ℕ) → ℕ
frame_size mode n3 n4 = 1 + p1_len (main_of mode) + pids_len + p2_len (main_of mode) + n3 + n4
