-- The table of causes in words, a line for each: written by .ci/header --write from causes.tsv.
use Rattle.std.specs.Prelude.{List, [], ◌∷◌, ℕ}
use Rattle.text.specs.Letters.{ascii}

-- of each cause from 0 on, the words for C, or else those for any call: they need no place
unfoldable pub causes : List (List ℕ)
causes =
    ascii "success\n"
    ∷ ascii "the service mode is not covered: it is not 1, 2, 3, 5, 6 or 11 or, of a vector, not 1, 2, 3 or 11\n"
    ∷ ascii "the state of the run is not valid\n"
    ∷ ascii "a length is wrong, or a row, column, block pair, channel, transfer frame or coded bit is out of range\n"
    ∷ ascii "a control block is not the one of this mode, its count and the number of block 0\n"
    ∷ ascii "a P1 frame or P2 in PM is no coded frame; or at age 3 a P1' frame in PX2 is none, or not the P1 frame of the L1 frame three earlier\n"
    ∷ ascii "the PIDS cells are no coded frame\n"
    ∷ ascii "a cell that can show only the zero fill, or at ages 0 to 2 only the delay's zeros, is 1\n"
    ∷ ascii "a P3 or P4 frame of the L1 frame two earlier is no coded frame\n"
    ∷ ascii "the reserved number is above 7\n"
    ∷ ascii "the shares add up to more than 16\n"
    ∷ ascii "the symbol is above 511\n"
    ∷ ascii "a scale is not finite or not above zero\n"
    ∷ ascii "no control block of a set is faulty by itself, and one does not fit block 0's mode and number and its own position\n"
    ∷ ascii "no frame fits the cells that were read\n"
    ∷ ascii "more than one frame fits the cells that were read\n"
    ∷ ascii "the budget is 0 or above 64\n"
    ∷ ascii "it is no dump: it does not begin with HDM, or has fewer than eight bytes\n"
    ∷ ascii "the dump's version is not 1\n"
    ∷ ascii "the dump ends in an L1 frame, or goes on behind the last\n"
    ∷ []

-- why there is no sheet, in the order of the rows
unfoldable pub sheets : List (List ℕ)
sheets =
    ascii "there are no sheets for this service mode\n"
    ∷ ascii "the service mode has no such channel to be without\n"
    ∷ ascii "a sheet has 0 to 64 L1 frames\n"
    ∷ ascii "the list of questions has more bytes than a sheet takes\n"
    ∷ ascii "the list of questions has no empty line at its end\n"
    ∷ ascii "fewer than the bytes of its L1 frames stand behind the list\n"
    ∷ ascii "more than the bytes of its L1 frames stand behind the list\n"
    ∷ []

-- how the line of each of these begins
unfoldable pub names : List (List ℕ)
names =
    ascii "NO SHEET MODE\n"
    ∷ ascii "NO SHEET WITHOUT\n"
    ∷ ascii "NO SHEET COUNT\n"
    ∷ ascii "NO SHEET LONG LIST\n"
    ∷ ascii "NO SHEET LIST\n"
    ∷ ascii "NO SHEET SHORT "
    ∷ ascii "NO SHEET LONG "
    ∷ []

-- how many causes there are; how many lines, with one for no cause; and how many bytes these have
abbrev pub known : ℕ
known = 20

abbrev pub count : ℕ
count = 28

abbrev pub size : ℕ
size = 1522
