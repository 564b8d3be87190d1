-- House packing (document 01): a bit is a number below 2, and a stream of bits a function from the index. A byte holds eight bits, the first of which weighs 128.
use Rattle.std.specs.Prelude.{ℕ, zero, suc, ◌+◌, ◌-◌, ◌*◌, ◌/◌, ◌%◌, ◌^◌, ◌<◌, List, [], ◌∷◌, cond, get_or, eqb, ltb}

-- Every element is a byte: what a lent slice of u8 always is.
abbrev pub Bytes : List ℕ → Type 0
Bytes bytes = (j : ℕ) → get_or bytes j 0 < 256

-- Bit n of a list of bytes; 0 past its end.
unfoldable pub bit_at : List ℕ → ℕ → ℕ
bit_at bytes n = get_or bytes (n / 8) 0 / 2 ^ (7 - n % 8) % 2

-- The number that the first k bits of f write, the highest first.
unfoldable pub number : ℕ → (ℕ → ℕ) → ℕ
number zero f = 0
number (suc k) f = number k f * 2 + f k

-- Byte j of the stream f.
abbrev pub byte_of : (ℕ → ℕ) → ℕ → ℕ
byte_of f j = number 8 (λ k. f (8 * j + k))

-- The n bytes that hold the first 8 * n bits of f.
unfoldable pub packed : ℕ → (ℕ → ℕ) → List ℕ
packed zero f = []
packed (suc n) f = number 8 f ∷ packed n (λ i. f (8 + i))

-- f with b at n.
unfoldable pub put : ℕ → ℕ → (ℕ → ℕ) → ℕ → ℕ
put n b f i = cond (eqb i n) b (f i)

-- The matrix m after the first n bits were written, bit i at the cell `place i`.
unfoldable pub written : (ℕ → ℕ) → (ℕ → ℕ) → ℕ → (ℕ → ℕ) → ℕ → ℕ
written place bits zero m = m
written place bits (suc n) m = put (place n) (bits n) (written place bits n m)

-- Two rows, of streams or of tests: n of the first, and then the second, counted on.
unfoldable pub beside : {A : Type 0} → ℕ → (ℕ → A) → (ℕ → A) → ℕ → A
beside n f g k = cond (ltb k n) (f k) (g (k - n))
