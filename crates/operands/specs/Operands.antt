-- An argument of a program: decimal digits, at least one. A number above the limit stands as the limit, 2^32: 200 years have fewer L1 frames.
use Rattle.std.specs.Prelude.{ℕ, ◌+◌, ◌-◌, ◌*◌, min, Bool, cond, not, ◌&&◌, List, [], ◌∷◌, ltb, Option, Some, None}

abbrev pub limit : ℕ
limit = 4294967296

-- the bytes 0 to 9 of ASCII
unfoldable pub is_digit : ℕ → Bool
is_digit byte = not (ltb byte 48) && ltb byte 58

-- the digits that follow a number
unfoldable pub after : ℕ → List ℕ → Option ℕ
after n [] = Some n
after n (byte ∷ text) = cond (is_digit byte) (after (min limit (10 * n + (byte - 48))) text) None

unfoldable pub operand_of : List ℕ → Option ℕ
operand_of [] = None
operand_of (byte ∷ text) = after 0 (byte ∷ text)
