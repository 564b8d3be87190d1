-- 10.4.2.3 and 10.4.2.4: P1', the second path of P1, in PX2 of MP5 and MP6. Each P1' frame has a matrix of its own, that of its block pair, of 64 rows.
use Rattle.std.specs.Prelude.{ℕ, ◌+◌, ◌*◌, ◌%◌, Bool, false, eqb, get_or}
use Rattle.interleaving.specs.declared.Position.{Position}
use Rattle.interleaving.specs.InverseI.{k_of_position}
use Rattle.interleaving.specs.PX2.{v8}
use Rattle.runs.specs.declared.Main.{Main}
use Rattle.runs.specs.declared.Main.TheVariants.{Plain, Mp5, Mp6}

-- a channel is the one of this number, in a mode that has P1'
abbrev pub named : Main → (channel number : ℕ) → Bool
named Plain channel number = false
named Mp5 channel number = eqb channel number
named Mp6 channel number = eqb channel number

-- the cells of a row, J * C of Tables 10-17 and 10-19, and the coded bits of a P1' frame, at the rate 1/2
abbrev pub columns_of : Main → ℕ
columns_of Plain = 0
columns_of Mp5 = 144
columns_of Mp6 = 288

abbrev pub coded_of : Main → ℕ
coded_of k = 64 * columns_of k

-- the cell, counted through the eight matrices
abbrev pub cell_of : Main → (pair row column : ℕ) → ℕ
cell_of k pair row column = (pair * 64 + row) * columns_of k + column

-- 10.2.3 turned round: the bit of a P1' frame that stands at a position of its matrix. In MP6 the turns of the partitions are v, its own inverse
unfoldable pub bit_of : Main → Position → ℕ
bit_of Plain at = 0
bit_of Mp5 at = 8 * k_of_position 4 at + 2 * at.partition + (at.block + k_of_position 4 at) % 2
bit_of Mp6 at = 16 * k_of_position 4 at + 8 * ((at.block + at.partition) % 2) + get_or v8 at.partition 0
