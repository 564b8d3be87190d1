-- Document 02, S-13: the layout of a dump.
use Rattle.std.specs.Prelude.{ℕ, ◌+◌, ◌*◌, ◌/◌, ◌%◌, List, [], ◌∷◌, ◌++◌, length, take, drop}
use Rattle.runs.specs.declared.Extended.TheVariants.{P3}
use Rattle.runs.specs.Lengths.{kind_of, matrix_len, pm_len, px2_len, control_len}
use Rattle.runs.specs.Lent.{Signal}
use Rattle.calls.specs.Called.{signal}

-- the letters HDM
unfoldable pub mark : List ℕ
mark = 72 ∷ 68 ∷ 77 ∷ []

-- 16 bits, most significant byte first
abbrev pub word : (high low : ℕ) → ℕ
word high low = 256 * high + low

abbrev pub bytes16 : ℕ → List ℕ
bytes16 n = n / 256 ∷ n % 256 ∷ []

-- the mark, version 1, the mode and the count of L1 frames
unfoldable pub header : (mode count : ℕ) → List ℕ
header mode count = mark ++ bytes16 1 ++ mode ∷ bytes16 count

-- PM, PX1, PX2 and control of each L1 frame
unfoldable pub bytes_of : Signal → List ℕ
bytes_of x = x.matrices.pm ++ (x.matrices.px1 ++ (x.matrices.px2 ++ x.control))

unfoldable pub body : List Signal → List ℕ
body [] = []
body (x ∷ xs) = bytes_of x ++ body xs

-- the dump of the L1 frames xs, which are at most 65,535
unfoldable pub dump_of : ℕ → List Signal → List ℕ
dump_of mode xs = header mode (length xs) ++ body xs

-- ---- back: how many bytes an L1 frame has in this mode, and the L1 frame in them

unfoldable pub frame_bytes : ℕ → ℕ
frame_bytes mode = pm_len + matrix_len (kind_of mode P3) + px2_len mode + control_len

-- the n bytes from byte `from` on; of what ends early, those that there are
abbrev pub cut : (from n : ℕ) → List ℕ → List ℕ
cut from n bytes = take n (drop from bytes)

unfoldable pub signal_in : ℕ → List ℕ → Signal
signal_in mode bytes =
    let px1 = matrix_len (kind_of mode P3) in
    let px2 = px2_len mode in
    signal (cut 0 pm_len bytes) (cut pm_len px1 bytes) (cut (pm_len + px1) px2 bytes) (cut (pm_len + px1 + px2) control_len bytes)
