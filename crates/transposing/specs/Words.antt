-- Words of bytes, and a list that is filled in order. For the code alone.
use Rattle.std.specs.Prelude.{◌≡◌, List, ℕ, ◌+◌, ◌-◌, ◌*◌, ◌/◌, ◌%◌, ◌^◌, ◌<◌, get_or}

-- the first n are g's
pub record Begins (g : ℕ → ℕ) (n : ℕ) (l : List ℕ) : Type 0 where
  pub is : (q : ℕ) → q < n → get_or l q 0 ≡ g q

-- four and eight bytes as one number, the first the highest
unfoldable pub quad : (ℕ → ℕ) → ℕ
quad f = ((f 0 * 256 + f 1) * 256 + f 2) * 256 + f 3

unfoldable pub eight : (ℕ → ℕ) → ℕ
eight f = quad f * 4294967296 + quad (λ u. f (4 + u))

-- the eight bits of a byte, each in a byte of its own
unfoldable pub spread_of : ℕ → ℕ
spread_of x = eight (λ u. x / 2 ^ (7 - u) % 2)

-- of the first numbers, n of them
pub record Spreads (n : ℕ) (l : List ℕ) : Type 0 where
  pub is : (x : ℕ) → x < n → get_or l x 0 ≡ spread_of x
