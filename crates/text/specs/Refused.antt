-- House matter: what the programs print for a line that they do not take.
use Rattle.std.specs.Prelude.{ℕ, List, ◌++◌}
use Rattle.text.specs.Letters.{ascii}
use Rattle.text.specs.Numbers.{decimal}

-- REFUSED and the line's number
unfoldable pub refused : (number : ℕ) → List ℕ
refused number = ascii "REFUSED " ++ (decimal number ++ ascii "\n")
