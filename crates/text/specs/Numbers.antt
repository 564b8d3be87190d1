-- Decimal numbers as ASCII bytes: what a list of digits is worth, and how a number is printed.
use Rattle.std.specs.Prelude.{ℕ, zero, suc, ◌+◌, ◌-◌, ◌*◌, ◌/◌, ◌%◌, ◌^◌, Bool, true, false, cond, ◌&&◌, List, [], ◌∷◌, ◌++◌, length, leb, ltb}

-- the digits 0 to 9
unfoldable pub is_digit : ℕ → Bool
is_digit b = leb 48 b && leb b 57

-- digits, and nothing else
unfoldable pub digits_alone : List ℕ → Bool
digits_alone [] = true
digits_alone (b ∷ rest) = is_digit b && digits_alone rest

-- a number: one digit or more, and nothing else; leading zeros are allowed
unfoldable pub is_number : List ℕ → Bool
is_number [] = false
is_number (b ∷ rest) = digits_alone (b ∷ rest)

-- what digits are worth: the first weighs most, and the last 1
unfoldable pub value : List ℕ → ℕ
value [] = 0
value (b ∷ rest) = (b - 48) * 10 ^ length rest + value rest

-- n in decimal, by at most k divisions: below ten the digit n, else n / 10 in decimal and then the last digit
unfoldable pub spelled : (k n : ℕ) → List ℕ
spelled zero n = (48 + n) ∷ []
spelled (suc k) n = cond (ltb n 10) ((48 + n) ∷ []) (spelled k (n / 10) ++ ((48 + n % 10) ∷ []))

-- n in decimal, with no leading zeros; n divisions by ten are enough
unfoldable pub decimal : ℕ → List ℕ
decimal n = spelled n n
