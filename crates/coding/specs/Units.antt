-- What the code of this crate counts by, and no part of section 9: a unit is two bytes of a frame, or their coded bytes, as many as a pattern is long;
-- a window is some bits of either, side by side in a number; a mask picks the bits of a window whose modulo 2 sum is wanted.
use Rattle.std.specs.Prelude.{◌≡◌, Bool, true, false, cond, ◌⊎◌, List, [], ◌∷◌, ℕ, ◌+◌, ◌-◌, ◌*◌, ◌/◌, ◌%◌, ◌^◌, ◌<◌, ◌≤◌, length, get_or}
use Rattle.std.specs.Int.Bits.{bit_and}
use Rattle.std.specs.Int.Count.{ones}
use Rattle.bits.specs.Bits.{number}
use Rattle.coding.specs.declared.Rate.{Rate}
use Rattle.coding.specs.declared.Rate.TheVariants.{TwoFifths, Half}
use Rattle.coding.specs.Coder.{back}
use Rattle.coding.specs.Rates.{pattern_of}
use Rattle.coding.specs.Channel.{part}

-- how many coded bits two bits of a frame have
abbrev pub group_size : Rate → ℕ
group_size rate = length (pattern_of rate)

-- the masks of the coded bits of two bits of a frame, over a window of eight bits of it that ends with the two;
-- then the masks of these two, over a window of three groups of coded bits that ends with theirs
abbrev pub masks_of : Rate → List ℕ
masks_of TwoFifths = 0o332 ∷ 0o236 ∷ 0o256 ∷ 0o155 ∷ 0o117 ∷ 0o63450 ∷ 0o6551 ∷ []
masks_of Half = 0o332 ∷ 0o256 ∷ 0o155 ∷ 0o127 ∷ 0o1544 ∷ 0o331 ∷ []

-- the modulo 2 sum of the window w under mask k
unfoldable pub masked : Rate → ℕ → ℕ → ℕ
masked rate w k = ones (bit_and w (get_or (masks_of rate) k 0)) % 2

-- the coded bits of two bits of a frame
unfoldable pub group_of : Rate → ℕ → ℕ
group_of rate w = number (group_size rate) (masked rate w)

-- a table of them for each window
abbrev pub Groups : Rate → List ℕ → Type 0
Groups rate table = (w : ℕ) → w < 256 → get_or table w 0 ≡ group_of rate w

-- coded bit i of a unit, where x is the byte before it and its two bytes
unfoldable pub unit_coded : Rate → ℕ → ℕ → ℕ
unit_coded rate x i = masked rate (x / 2 ^ (14 - 2 * (i / group_size rate)) % 256) (i % group_size rate)

-- bit i of a unit, where x ends with the unit's coded bytes, and the two before it
unfoldable pub unit_bit : Rate → ℕ → ℕ → ℕ
unit_bit rate x i = masked rate (x / 2 ^ ((7 - i / 2) * group_size rate)) (group_size rate + i % 2)

-- the coded bits of a unit, or for the inverse its bits, as a number
unfoldable pub word_of : Rate → Bool → ℕ → ℕ
word_of rate inverse x = cond inverse (number 16 (unit_bit rate x)) (number (8 * group_size rate) (unit_coded rate x))

-- how many bytes x has
abbrev pub bytes_of : Bool → ℕ
bytes_of inverse = cond inverse 7 3

-- how many digits a word has
abbrev pub length_of : Rate → Bool → ℕ
length_of rate inverse = cond inverse 16 (8 * group_size rate)

-- one number t holds the words of a byte at each place k that it can have in x: so many digits are dropped, and so many zeros put behind the rest
abbrev pub downs : Rate → Bool → List ℕ
downs rate inverse = cond inverse (60 ∷ 0 ∷ 16 ∷ 36 ∷ 48 ∷ 56 ∷ 32 ∷ []) (3 * group_size rate ∷ 0 ∷ 0 ∷ [])

abbrev pub ups : Rate → Bool → List ℕ
ups rate inverse = cond inverse (0 ∷ 0 ∷ 0 ∷ 4 ∷ 8 ∷ 12 ∷ 14 ∷ []) (0 ∷ group_size rate ∷ 5 * group_size rate ∷ [])

unfoldable pub placed : Rate → Bool → ℕ → ℕ → ℕ
placed rate inverse k t = t / 2 ^ get_or (downs rate inverse) k 0 * 2 ^ get_or (ups rate inverse) k 0 % 2 ^ length_of rate inverse

-- these numbers for bytes of a single 1; of the coder the last two, from which the others are shifted
abbrev pub seeds_of : Rate → Bool → List ℕ
seeds_of TwoFifths false = 0x1bf13 ∷ 0xefcdc ∷ []
seeds_of Half false = 0x379b ∷ 0xde6c ∷ []
seeds_of TwoFifths true =
    0x1f0000a20014000f ∷ 0x053e07c200000002 ∷ 0x000a014000f8001f ∷ 0x3e7c000000280005
    ∷ 0x0a140f8001f00000 ∷ 0x7c0002800050003e ∷ 0x14f81f000000000a ∷ 0x0028050003e0007c ∷ []
seeds_of Half true =
    0x1060160001600016 ∷ 0x00a00a0000a0000a ∷ 0x20c02c0002c0002c ∷ 0x1040140001400014
    ∷ 0x5080580005800058 ∷ 0x2080280002800028 ∷ 0xb000b0000b0000b0 ∷ 0x5000500005000050 ∷ []

-- a table of them, for each byte
pub record Words (rate : Rate) (inverse : Bool) (table : List ℕ) : Type 0 where
  pub word : (k b : ℕ) → k < bytes_of inverse → b < 256 → placed rate inverse k (get_or table b 0) ≡ word_of rate inverse (b * 2 ^ (8 * k))

-- of frames of n bytes: the m bytes from byte j on lie in one frame, and so do the d before them, counted around its end
pub record Within (n j d m : ℕ) (bytes : List ℕ) : Type 0 where
  pub few : (0 < d) × (d ≤ m) × (d + m ≤ 8)
  pub one : j % n + m ≤ n
  pub there : j / n * n + n ≤ length bytes
  pub apart : (j % n ≡ 0) ⊎ (d ≤ j % n)

-- their bits, from d bytes before byte j on
unfoldable pub around : ℕ → ℕ → ℕ → (ℕ → ℕ) → ℕ → ℕ
around n j d f i = part (8 * n) (j / n) f (back (8 * n) (8 * (j % n) + i) (8 * d))
