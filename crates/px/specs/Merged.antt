-- The bytes that are merged into the internal matrix, and their masks. Only the code needs this.
use Rattle.std.specs.Prelude.{◌≡◌, List, ℕ, ◌+◌, ◌-◌, ◌*◌, ◌/◌, ◌%◌, ◌≤◌, ◌<◌, cond, ltb, get_or, length}
use Rattle.std.specs.Int.Bits.{bit_and, bit_xor}
use Rattle.bits.specs.Bits.{number}
use Rattle.interleaving.specs.PX.{partitions, coded_bytes}
use Rattle.interleaving.specs.FinderPX.{source}

-- how many blocks on the place x of a block is from the turn that writes it
unfoldable pub ahead : (kind x : ℕ) → ℕ
ahead kind x = (12 * (x / (partitions kind * 36)) + 3 * (x % (partitions kind * 36) % 36) + 7 * (x % (partitions kind * 36) / 36)) % 32

-- whether the L1 frame at hand writes the place x of its own block t, and not of the other L1 frame's; and whether that is at or before the step that reads it
unfoldable pub near_bit : (kind t x : ℕ) → ℕ
near_bit kind t x = 1 - (t + (32 - ahead kind x)) % 32 / 16

unfoldable pub seen_bit : (kind x : ℕ) → ℕ
seen_bit kind x = cond (ltb (1152 * partitions kind * 15 + x) (source kind (1152 * partitions kind * 15 + x))) 0 1

-- the same of the eight places of the byte g
unfoldable pub near_mask : (kind t g : ℕ) → ℕ
near_mask kind t g = number 8 (λ u. near_bit kind t (8 * g + u))

unfoldable pub seen_mask : (kind g : ℕ) → ℕ
seen_mask kind g = number 8 (λ u. seen_bit kind (8 * g + u))

-- four places beside each other, of which the first is q turns before block 32
unfoldable pub near4 : ℕ → ℕ
near4 q = number 4 (λ u. 1 - (q + (32 - 3 * u)) % 32 / 16)

abbrev pub Nears : List ℕ → Type 0
Nears nears = (q : ℕ) → q < 32 → get_or nears q 0 ≡ near4 q

-- the byte x, with the bits of a where m has ones
unfoldable pub mixed : (x a m : ℕ) → ℕ
mixed x a m = bit_xor x (bit_and (bit_xor x a) m)

-- the byte g of the block t in the internal matrix's two halves and in the L1 frame's matrix: as they were, and with the L1 frame's coded bits in them
pub record Kept (kind : ℕ) (memory px m p : List ℕ) (half t g : ℕ) : Type 0 where
  pub own : get_or memory (half * coded_bytes kind + (144 * partitions kind * t + g)) 0 ≡ get_or m (half * coded_bytes kind + (144 * partitions kind * t + g)) 0
  pub other : get_or memory ((1 - half) * coded_bytes kind + (144 * partitions kind * t + g)) 0 ≡ get_or m ((1 - half) * coded_bytes kind + (144 * partitions kind * t + g)) 0
  pub shown : get_or px (144 * partitions kind * t + g) 0 ≡ get_or p (144 * partitions kind * t + g) 0

pub record Merged (kind : ℕ) (memory px m p : List ℕ) (half t g : ℕ) : Type 0 where
  pub own : get_or memory (half * coded_bytes kind + (144 * partitions kind * t + g)) 0
      ≡ mixed (get_or m (half * coded_bytes kind + (144 * partitions kind * t + g)) 0) (get_or p (144 * partitions kind * t + g) 0) (near_mask kind t g)
  pub other : get_or memory ((1 - half) * coded_bytes kind + (144 * partitions kind * t + g)) 0
      ≡ mixed (get_or p (144 * partitions kind * t + g) 0) (get_or m ((1 - half) * coded_bytes kind + (144 * partitions kind * t + g)) 0) (near_mask kind t g)
  pub shown : get_or px (144 * partitions kind * t + g) 0
      ≡ mixed (get_or m (half * coded_bytes kind + (144 * partitions kind * t + g)) 0) (get_or p (144 * partitions kind * t + g) 0) (bit_and (near_mask kind t g) (seen_mask kind g))

-- the first n bytes are merged, counted by the byte of a block and then by the block
pub record Status (kind half : ℕ) (memory px m p : List ℕ) (n : ℕ) : Type 0 where
  pub long : length memory ≡ 2 * coded_bytes kind
  pub wide : length px ≡ coded_bytes kind
  pub done : (t g : ℕ) → t < 16 → g < 144 * partitions kind → 16 * g + t < n → Merged kind memory px m p half t g
  pub left : (t g : ℕ) → t < 16 → g < 144 * partitions kind → n ≤ 16 * g + t → Kept kind memory px m p half t g
