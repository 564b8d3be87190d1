-- House matter: the working of a coded bit as a line of ASCII bytes, its fields in the order in which they are worked out:
--     WORK BIT j GENERATOR 133 FRAME b b b b b b b SCRAMBLER s s s s s s s SUM n STEP i K k BLOCK b PARTITION p ROW r COLUMN c CELL x
use Rattle.std.specs.Prelude.{ℕ, ◌+◌, ◌*◌, ◌/◌, ◌%◌, List, [], ◌∷◌, ◌++◌}
use Prim.Native.String.{String}
use Rattle.interleaving.specs.declared.Position.{Position}
use Rattle.locating.specs.declared.writing.Writing.{Writing}
use Rattle.text.specs.Letters.{ascii}
use Rattle.text.specs.Numbers.{decimal}
use Rattle.workings.specs.declared.Worked.{Worked}

-- a field: its name, its number and a space
abbrev pub named : String → ℕ → List ℕ
named name n = ascii name ++ (decimal n ++ ascii " ")

-- Table 9-2 gives the generators in octal: the number whose decimal digits are the octal digits of g, for g of at most three of them
unfoldable pub octal : (g : ℕ) → ℕ
octal g = 100 * (g / 64) + 10 * (g / 8 % 8) + g % 8

-- each of a list of bits, with a space behind
unfoldable pub words : List ℕ → List ℕ
words [] = []
words (b ∷ rest) = (decimal b ++ ascii " ") ++ words rest

-- 10.2: the position in the matrix, and the number of its cell, which ends the line
unfoldable pub place_text : Position → (cell : ℕ) → List ℕ
place_text p cell =
    named "BLOCK " p.block
    ++ (named "PARTITION " p.partition
    ++ (named "ROW " p.row
    ++ (named "COLUMN " p.column
    ++ (ascii "CELL " ++ (decimal cell ++ ascii "\n")))))

-- 10.2.3, 10.2.4 or 10.2.6: the number of the bit there, k, and where it is written
unfoldable pub writing_text : Writing → List ℕ
writing_text w = named "STEP " w.step ++ (named "K " w.k ++ place_text w.position w.cell)

-- 8.2 and 9.3: the frame's bits, the newest first, the scrambler's at their places, and how many ones the generator takes
unfoldable pub sum_text : (bits scrambling : List ℕ) (sum : ℕ) → List ℕ
sum_text bits scrambling sum = ascii "FRAME " ++ (words bits ++ (ascii "SCRAMBLER " ++ (words scrambling ++ named "SUM " sum)))

-- all of it
unfoldable pub work_line : Worked → List ℕ
work_line w =
    named "WORK BIT " w.number
    ++ (named "GENERATOR " (octal w.generator) ++ (sum_text w.bits w.scrambling w.sum ++ writing_text w.writing))
