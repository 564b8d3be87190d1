-- House matter (document 02, S-7): a scale as the program `vector` takes it, in decimal, and which of them are numbers of single precision.
use Rattle.std.specs.Prelude.{ℕ, ◌+◌, ◌-◌, ◌*◌, ◌/◌, ◌%◌, ◌^◌, Bool, cond, ◌&&◌, ◌||◌, List, length, ◌==◌, nat_le, nat_lt, Option, Some, None}
use Rattle.text.specs.Lines.{after, before}
use Rattle.text.specs.Numbers.{is_number, value}

-- the point, in ASCII
abbrev pub point : ℕ
point = 46

-- a number of at most so many digits
unfoldable pub is_short : (most : ℕ) → List ℕ → Bool
is_short most text = is_number text && nat_le (length text) most

-- one to three digits, then perhaps a point and one to sixteen digits
unfoldable pub is_scale : List ℕ → Bool
is_scale text = is_short 3 (before point text) && (length (before point text) == length text || is_short 16 (after point text))

-- how many times 10^-16 it is
unfoldable pub decimals : List ℕ → ℕ
decimals text = value (before point text) * 10 ^ 16 + value (after point text) * 10 ^ (16 - length (after point text))

-- So many times 2^-16 in single precision: at most 24 bits without the zeros at its end. A scale is below 1,000, and so below 2^26 times 2^-16.
unfoldable pub is_single : ℕ → Bool
is_single times =
    nat_lt times (2 ^ 24) || ((nat_lt times (2 ^ 25) && times % 2 == 0) || (nat_lt times (2 ^ 26) && times % 4 == 0))

-- n times 10^-16 as times 2^-16: exactly, or not taken
unfoldable pub exact_of : (n : ℕ) → Option ℕ
exact_of n = cond (n % 5 ^ 16 == 0 && is_single (n / 5 ^ 16)) (Some (n / 5 ^ 16)) None

unfoldable pub scale_of : List ℕ → Option ℕ
scale_of text = cond (is_scale text) (exact_of (decimals text)) None
