-- The two paths of P1 in MP5 and MP6 (9.2, 9.4.4, 9.4.5): PM brings the frames at once, and PX2 after the digital diversity delay. What is delayed is scrambled
-- frames (docs/DECISIONS.md D16 to D18).
use Rattle.std.specs.Prelude.{ℕ, Bool, not, ◌&&◌, ◌||◌, ◌++◌, eqb, ltb, take, drop}
use Rattle.bits.specs.Bits.{bit_at, packed}
use Rattle.bits.specs.Tests.{all}
use Rattle.scrambling.specs.Scrambler.{scrambled_each}
use Rattle.coding.specs.declared.Rate.TheVariants.{Half}
use Rattle.coding.specs.Channel.{part, no_frame}
use Rattle.coding.specs.Buffers.{coded_each, uncoded_each}
use Rattle.interleaving.specs.PX2 as PX2
use Rattle.runs.specs.declared.Main.{Main}
use Rattle.runs.specs.MainChannels.{p1_bits, p1'_bits, p1'_row, delay_frames, p1_len, p1'_len}
use Rattle.runs.specs.Chain.{Buffer}

-- ---- 8: the P1 frames scrambled; and once more, the P1 frames again

unfoldable pub scrambled_of : Main → Buffer → Buffer
scrambled_of k p1 = packed (p1_len k) (scrambled_each (p1_bits k) (bit_at p1))

-- ---- 9.2: scrambled P1 frames s come in behind those that wait in the delay memory m. The oldest L1 frame's go on, and the others wait. With no delay, s goes on

unfoldable pub oldest : Main → Buffer → Buffer → Buffer
oldest k m s = take (p1_len k) (m ++ s)

unfoldable pub waiting : Main → Buffer → Buffer → Buffer
waiting k m s = drop (p1_len k) (m ++ s)

-- ---- 10.4.2.3 and 10.4.2.4, PX2: eight P1' frames at the rate 1/2, from scrambled P1 frames s

unfoldable pub p1'_of : Main → Buffer → Buffer
p1'_of k s = packed (p1'_len k) (PX2.matrix (p1'_row k) (coded_each Half (p1'_bits k) (bit_at s)))

-- back, from the matrices x
abbrev pub p1'_cells : Main → Buffer → ℕ → ℕ
p1'_cells k x i = bit_at x (PX2.place (p1'_row k) i)

-- P1' frame f and P1 frame f of s are the same, bit by bit
unfoldable pub agree : Main → Buffer → Buffer → ℕ → Bool
agree k x s f =
    let n = p1'_bits k in
    all n (λ i. eqb (part n f (uncoded_each Half n (p1'_cells k x)) i) (part n f (bit_at s) i))

-- the cells of P1' frame f are no coded frame, or the two paths disagree
unfoldable pub p1'_bad : Main → Buffer → Buffer → ℕ → Bool
p1'_bad k x s f = no_frame Half (p1'_bits k) (p1'_cells k x) f || not (agree k x s f)

-- cell c of the matrices x of an L1 frame of this age can show only the delay's zeros, which are coded to zeros, and is 1
unfoldable pub delay_bad : Main → ℕ → Buffer → ℕ → Bool
delay_bad k age x c = ltb age (delay_frames k) && eqb (bit_at x c) 1
