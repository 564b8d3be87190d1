-- The definitions' worked examples: a number, the lines of an input, and refused lines. Assumes nothing.
use mathlib.Core.Path.{◌≡◌, refl, sym}
use Rattle.std.proofs.Common.{lit<, lit≤}
use Rattle.text.proofs.Spelling.{fewest-decimal}
use mathlib.Core.List.{[], ◌∷◌}
use Rattle.text.specs.Numbers.{is_digit, digits_alone, is_number, value, decimal}
use Rattle.text.specs.Lines.{after, before, joined, lines}
use Rattle.text.specs.Letters.{ascii}
use Rattle.text.specs.Refused.{refused}
use Rattle.listing.specs.Printed.{printed}

-- 365439 in decimal, and back
last_bit : decimal 365439 ≡ ascii "365439"
last_bit = sym (fewest-decimal 6 365439 (lit≤ tt, lit< tt, λ _. lit≤ tt))

worth : value (ascii "0360") ≡ 360
unfolding value
worth = refl

-- the last has no newline
three-lines : lines (ascii "7\n\n8") ≡ ascii "7" ∷ [] ∷ ascii "8" ∷ []
unfolding lines joined
three-lines = refl

two-spaces : printed 7 (ascii "1  2") ≡ refused 7
unfolding printed before after is_number digits_alone is_digit
two-spaces = refl
