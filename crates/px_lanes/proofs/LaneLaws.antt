-- The coded bits laid out row by row: digits to the base of 16, the bits of a coded byte, and the byte of a row that four columns twice give. Assumes nothing.
use mathlib.Core.Path.{◌≡◌, refl, sym, ap, ap₂, ◌∙◌}
use mathlib.Core.List.{List}
use Prim.Native.Nat.{ℕ, zero, suc, ◌+◌, ◌-◌, ◌*◌, ◌/◌, ◌%◌, ◌^◌, ◌≤◌, ◌<◌}
use native.Mathlib.Nat.{mul_comm, mod-eq_of_lt, mod-lt}
use native.Mathlib.Omega.{arith}
use lib.ListN.{get_or}
use Rattle.bits.specs.Bits.{bit_at, number, byte_of}
use Rattle.bits.proofs.Numbers.{digit, number-cong}
use Rattle.bits.proofs.Packed.{bit_at-digit}
use Rattle.interleaving.specs.InverseIV.{index, missed}
use Rattle.interleaving.specs.PX.{partitions, runs, coded_bytes, coded_bits}
use Rattle.interleaving.specs.FinderPX.{source}
use Rattle.interleaving.proofs.Mod.{mod_same}
use Rattle.interleaving.proofs.PXKinds.{kind-is, coded_bytes-le}
use Rattle.transposing.specs.Words.{Begins}
use Rattle.px_lanes.specs.Laid.{hex, lane_bit, lane_at, column_at, quad_at, Laid}
use Rattle.px_steps.proofs.Blocks.{source-block, turn-mod}
use Rattle.px_steps.proofs.Residues.{turn-le}
use Rattle.px_steps.proofs.Words.{bits-of-M}

-- ---- digits to the base of 16

pub hex-le : (f : ℕ → ℕ) → ((p : ℕ) → p < 4 → f p < 2) → hex f ≤ 4369
unfolding hex
hex-le f b = omega (arith, b 0 (omega arith), b 1 (omega arith), b 2 (omega arith), b 3 (omega arith))

hex-digit : (f : ℕ → ℕ) → ((p : ℕ) → f p < 16) → (p : ℕ) → p < 4 → hex f / 2 ^ (12 - 4 * p) % 16 ≡ f p
unfolding hex
hex-digit f b zero h = omega (arith, b 0, b 1, b 2, b 3)
hex-digit f b (suc zero) h = omega (arith, b 0, b 1, b 2, b 3)
hex-digit f b (suc (suc zero)) h = omega (arith, b 0, b 1, b 2, b 3)
hex-digit f b (suc (suc (suc zero))) h = omega (arith, b 0, b 1, b 2, b 3)
hex-digit f b (suc (suc (suc (suc p)))) h = absurd (omega arith)

hex-sum : (a b c d : ℕ → ℕ) → 8 * hex a + 4 * hex b + 2 * hex c + hex d ≡ hex (λ p. 8 * a p + 4 * b p + 2 * c p + d p)
unfolding hex
hex-sum a b c d = omega arith

four-number : (h : ℕ → ℕ) → 8 * h 0 + 4 * h 1 + 2 * h 2 + h 3 ≡ number 4 h
unfolding number
four-number h = omega arith

-- ---- the bits of a coded byte

pub lane-lt : (kind e x p : ℕ) → lane_bit kind e x p < 2
unfolding lane_bit
lane-lt kind e x p = omega arith

pub index_in : (kind p n : ℕ) → kind < 2 → p < partitions kind
    → (index (partitions kind) (runs kind) p n ≡ 8 * (n / runs kind) + index (partitions kind) (runs kind) p (n % runs kind))
    × (index (partitions kind) (runs kind) p (n % runs kind) < 8)
unfolding index missed partitions runs
index_in zero zero n h hp = (omega arith, omega arith)
index_in zero (suc zero) n h hp = (omega arith, omega arith)
index_in zero (suc (suc p)) n h hp = absurd (omega arith)
index_in (suc zero) zero n h hp = (omega arith, omega arith)
index_in (suc zero) (suc zero) n h hp = (omega arith, omega arith)
index_in (suc zero) (suc (suc zero)) n h hp = (omega arith, omega arith)
index_in (suc zero) (suc (suc (suc zero))) n h hp = (omega arith, omega arith)
index_in (suc zero) (suc (suc (suc (suc p)))) n h hp = absurd (omega arith)
index_in (suc (suc kind)) p n h hp = absurd (omega arith)

bits-sum : (kind τ q e : ℕ) → kind < 2 → 8 * (144 * partitions kind * τ + q) + e ≡ 1152 * partitions kind * τ + (8 * q + e)
unfolding partitions
bits-sum zero τ q e h = omega arith
bits-sum (suc zero) τ q e h = omega arith
bits-sum (suc (suc kind)) τ q e h = absurd (omega arith)

small : (p n : ℕ) → p < n → p % n ≡ p
small p n h = mod-eq_of_lt h

lane-bit : (kind : ℕ) (l : List ℕ) (τ n p : ℕ) → kind < 2 → p < partitions kind
    → lane_bit kind (n % runs kind) (get_or l (144 * partitions kind * τ + n / runs kind) 0) p
    ≡ bit_at l (1152 * partitions kind * τ + index (partitions kind) (runs kind) p n)
unfolding lane_bit
lane-bit kind l τ n p hk hp =
    let in-byte = index_in kind p n hk hp in
    let e : ℕ = index (partitions kind) (runs kind) p (n % runs kind) in
    let d : digit (get_or l (144 * partitions kind * τ + n / runs kind) 0) (7 - e)
    ≡ get_or l (144 * partitions kind * τ + n / runs kind) 0 / 2 ^ (7 - e) % 2 = unfold digit in refl in
    ap (λ (q : ℕ). get_or l (144 * partitions kind * τ + n / runs kind) 0 / 2 ^ (7 - index (partitions kind) (runs kind) q (n % runs kind)) % 2)
    (small p (partitions kind) hp)
    ∙ sym d
    ∙ sym (bit_at-digit l (144 * partitions kind * τ + n / runs kind) e in-byte.1)
    ∙ ap (bit_at l) (bits-sum kind τ (n / runs kind) e hk ∙ ap (λ (x : ℕ). 1152 * partitions kind * τ + x) (sym in-byte.0))

-- ---- the coded bit of a place, by its row, partition and column

rows : (kind r p c x : ℕ) → kind < 2 → p < partitions kind → r < 32 → c < 36 → x ≡ partitions kind * 36 * r + (36 * p + c)
    → (x / (partitions kind * 36) ≡ r) × (x % (partitions kind * 36) / 36 ≡ p) × (x % (partitions kind * 36) % 36 ≡ c) × (x < 1152 * partitions kind)
unfolding partitions
rows zero r p c x h hp hr hc e = (omega arith, omega arith, omega arith, omega arith)
rows (suc zero) r p c x h hp hr hc e = (omega arith, omega arith, omega arith, omega arith)
rows (suc (suc kind)) r p c x h hp hr hc e = absurd (omega arith)

entry-rest : (r c : ℕ) → 5027 * (r * 36 + c) % 1152 % 16 ≡ (12 * r + 3 * c) % 16
entry-rest r c = omega arith

again : (x : ℕ) → x % 32 % 16 ≡ x % 16
again x = omega arith

turn-sum : (t p w n s q d e a b m : ℕ) → s < 32 → n < 1152 → s + 32 * q ≡ w + 7 * p → d + 16 * e ≡ t + 9 * p → w ≡ 16 * b + m → n ≡ 16 * a + m
    → t + (32 - s) + (p + b + 70) * 16 ≡ d + (1152 - n) + (e + a + 2 * q) * 16
turn-sum t p w n s q d e a b m hs hn s-is d-is w-is n-is = omega arith

-- w is 12 r + 3 c
turn-rest : (t p w n : ℕ) → n < 1152 → n % 16 ≡ w % 16 → (t + (32 - (w + 7 * p) % 32)) % 32 % 16 ≡ ((t + 9 * p) % 16 + (1152 - n)) % 16
turn-rest t p w n hn e =
    again (t + (32 - (w + 7 * p) % 32))
    ∙ mod_same 16 (p + w / 16 + 70) ((t + 9 * p) / 16 + n / 16 + 2 * ((w + 7 * p) / 32)) _ _
    (turn-sum t p w n ((w + 7 * p) % 32) ((w + 7 * p) / 32) ((t + 9 * p) % 16) ((t + 9 * p) / 16) (n / 16) (w / 16) (w % 16)
    (omega arith) hn (omega arith) (omega arith) (omega arith) (omega (arith, e)))

pub partitions-four : (kind : ℕ) → kind < 2 → partitions kind ≤ 4
unfolding partitions
partitions-four zero h = omega arith
partitions-four (suc zero) h = omega arith
partitions-four (suc (suc kind)) h = absurd (omega arith)

-- W is the cells of a block
pub source-laid : (kind t r p c x n : ℕ) → kind < 2 → t < 16 → r < 32 → p < partitions kind → c < 36
    → x ≡ partitions kind * 36 * r + (36 * p + c) → n ≡ 5027 * (36 * r + c) % 1152
    → source kind (1152 * partitions kind * t + x) % coded_bits kind
    ≡ 1152 * partitions kind * (((t + 9 * p) % 16 + (1152 - n)) % 16) + index (partitions kind) (runs kind) p n
source-laid kind t r p c x n hk ht hr hp hc x-is n-is =
    let W : ℕ = 1152 * partitions kind in
    let at = rows kind r p c x hk hp hr hc x-is in
    let there = source-block kind t x hk (omega arith) at.3 in
    let s : ℕ = (12 * r + 3 * c + 7 * p) % 32 in
    let m : 5027 * (r * 36 + c) % 1152 ≡ n = omega arith in
    let n-lt : n < 1152 = omega arith in
    let o_lt : index (partitions kind) (runs kind) p n < W = rw (at.0, at.1, at.2, m) at there.1 in
    let turned : source kind (W * t + x) ≡ (t + (32 - s)) % 32 * W + index (partitions kind) (runs kind) p n = rw (at.0, at.1, at.2, m) at there.0 in
    let rest : n % 16 ≡ (12 * r + 3 * c) % 16 = rw m at (entry-rest r c) in
    ap (λ (y : ℕ). y % coded_bits kind) turned
    ∙ turn-mod kind ((t + (32 - s)) % 32) _ hk (omega arith) o_lt
    ∙ ap (λ (y : ℕ). y * W + index (partitions kind) (runs kind) p n) (turn-rest t p (12 * r + 3 * c) n n-lt rest)
    ∙ swap (((t + 9 * p) % 16 + (1152 - n)) % 16) W _
  where
    swap : (a b c : ℕ) → a * b + c ≡ b * a + c
    swap a b c = omega (arith, mul_comm a b)

-- ---- four columns of the row r: z is the first over four, and d the block

abbrev entry_of : (r z u : ℕ) → ℕ
entry_of r z u = 5027 * (36 * r + 4 * z + u) % 1152

abbrev entry_bit : (kind : ℕ) → List ℕ → (d n p : ℕ) → ℕ
entry_bit kind l d n p = lane_bit kind (n % runs kind) (get_or l (144 * partitions kind * ((d + (1152 - n)) % 16) + n / runs kind) 0) p

abbrev column_bit : (kind : ℕ) → List ℕ → (r z d u p : ℕ) → ℕ
column_bit kind l r z d u p = entry_bit kind l d (entry_of r z u) p

columns-sum : (kind : ℕ) (l : List ℕ) (d i j k m : ℕ)
    → 8 * column_at kind l i d + 4 * column_at kind l j d + 2 * column_at kind l k d + column_at kind l m d
    ≡ hex (λ p. 8 * entry_bit kind l d i p + 4 * entry_bit kind l d j p + 2 * entry_bit kind l d k p + entry_bit kind l d m p)
unfolding column_at
columns-sum kind l d i j k m = hex-sum (entry_bit kind l d i) (entry_bit kind l d j) (entry_bit kind l d k) (entry_bit kind l d m)

quad_is : (kind : ℕ) (l : List ℕ) (r z d m : ℕ) → m / 16 ≡ z → m % 16 ≡ d
    → quad_at kind l r m ≡ hex (λ p. 8 * column_bit kind l r z d 0 p + 4 * column_bit kind l r z d 1 p + 2 * column_bit kind l r z d 2 p + column_bit kind
    l r z d 3 p)
unfolding quad_at
quad_is kind l r z d m z-is d-is =
    let first : 5027 * (36 * r + 4 * z) % 1152 ≡ entry_of r z 0 = omega arith in
    rw (z-is, d-is)
    (ap (λ (n : ℕ). 8 * column_at kind l n d + 4 * column_at kind l (entry_of r z 1) d + 2 * column_at kind l (entry_of r z 2) d + column_at kind l
    (entry_of r z 3) d) first
    ∙ columns-sum kind l d (entry_of r z 0) (entry_of r z 1) (entry_of r z 2) (entry_of r z 3))

sixteen : (a b c d : ℕ) → a < 2 → b < 2 → c < 2 → d < 2 → 8 * a + 4 * b + 2 * c + d < 16
sixteen a b c d ha hb hc hd = omega arith

quad-digit : (kind : ℕ) (l : List ℕ) (r z d m p : ℕ) → m / 16 ≡ z → m % 16 ≡ d → p < 4
    → quad_at kind l r m / 2 ^ (12 - 4 * p) % 16 ≡ number 4 (λ u. column_bit kind l r z d u p)
quad-digit kind l r z d m p z-is d-is hp =
    ap (λ (x : ℕ). x / 2 ^ (12 - 4 * p) % 16) (quad_is kind l r z d m z-is d-is)
    ∙ hex-digit _ (λ q. sixteen _ _ _ _ (lane-lt kind _ _ q) (lane-lt kind _ _ q) (lane-lt kind _ _ q) (lane-lt kind _ _ q)) p hp
    ∙ four-number (λ u. column_bit kind l r z d u p)

-- ---- the nibble y of the row r in the block t, and the byte of two of them

module _ (kind : ℕ) (l : List ℕ) (t r : ℕ) (hk : kind < 2) (ht : t < 16) (hr : r < 32) where
  abbrev J : ℕ
  J = partitions kind

  -- the coded bit that the place x of the block takes
  abbrev taken : ℕ → ℕ
  taken i = bit_at l (source kind i % coded_bits kind)

  module _ (y : ℕ) (hy : y < 9 * partitions kind) where
    p-lt : y / 9 < J
    p-lt = omega arith

    bit-laid : (u : ℕ) → u < 4 → column_bit kind l r (y % 9) ((t + 9 * (y / 9)) % 16) u (y / 9) ≡ taken (1152 * J * t + (J * 36 * r + (4 * y + u)))
    bit-laid u hu =
        let x-is : 4 * y + u ≡ 36 * (y / 9) + (4 * (y % 9) + u) = omega arith in
        let n-is : entry_of r (y % 9) u ≡ 5027 * (36 * r + (4 * (y % 9) + u)) % 1152 = ap (λ (v : ℕ). 5027 * v % 1152) (omega arith) in
        lane-bit kind l (((t + 9 * (y / 9)) % 16 + (1152 - entry_of r (y % 9) u)) % 16) (entry_of r (y % 9) u) (y / 9) hk p-lt
        ∙ ap (bit_at l)
        (sym (source-laid kind t r (y / 9) (4 * (y % 9) + u) (J * 36 * r + (4 * y + u)) (entry_of r (y % 9) u) hk ht hr p-lt (omega arith)
        (ap (λ (v : ℕ). J * 36 * r + v) x-is) n-is))

    pub nibble-laid : (quads : List ℕ) → Begins (quad_at kind l r) 144 quads
        → get_or quads (16 * (y % 9) + (t + 9 * (y / 9)) % 16) 0 / 2 ^ (12 - 4 * (y / 9)) % 16 ≡ number 4 (λ u. taken (1152 * J * t + (J * 36 * r + (4 * y + u))))
    nibble-laid quads b =
        ap (λ (x : ℕ). x / 2 ^ (12 - 4 * (y / 9)) % 16) (b.is (16 * (y % 9) + (t + 9 * (y / 9)) % 16) (omega arith))
        ∙ quad-digit kind l r (y % 9) ((t + 9 * (y / 9)) % 16) _ (y / 9) (omega arith) (omega arith) (omega (arith, p-lt, partitions-four kind hk))
        ∙ number-cong 4 _ _ (λ u lu. bit-laid u lu)

-- ---- the code's look-ups

pub lane-step : (kind e p : ℕ) → kind < 2 → e < runs kind → index (partitions kind) (runs kind) (p % partitions kind) e < 8
lane-step kind e p hk he = rw (small e (runs kind) he) at (index_in kind (p % partitions kind) e hk (mod-lt p (kind-is kind hk).J-pos)).1

byte-in : (kind t n : ℕ) → kind < 2 → t < 16 → n < 1152 → 144 * partitions kind * t + n / runs kind < coded_bytes kind
unfolding partitions runs coded_bytes
byte-in zero t n h ht hn = omega arith
byte-in (suc zero) t n h ht hn = omega arith
byte-in (suc (suc kind)) t n h ht hn = absurd (omega arith)

-- the byte that is read: w is the cells of a block
pub read_at : (kind w n t : ℕ) → kind < 2 → t < 16 → n < 1152 → w ≡ 1152 * partitions kind → w ≤ 4608
    → (w / 8 * t + n / 2 ^ (2 - kind) ≡ 144 * partitions kind * t + n / runs kind)
    × (w / 8 * t + n / 2 ^ (2 - kind) < coded_bytes kind) × (w / 8 * t ≤ 4608 * 15) × (coded_bytes kind ≤ 9216)
read_at kind w n t hk ht hn w-is w_le =
    let size : w / 8 ≡ 144 * partitions kind = omega arith in
    let e : w / 8 * t + n / 2 ^ (2 - kind) ≡ 144 * partitions kind * t + n / runs kind =
    ap₂ (λ (v m : ℕ). v * t + n / m) size (bits-of-M kind hk) in
    (e, rw e (byte-in kind t n hk ht hn), turn-le (w / 8) t (omega arith) ht, coded_bytes-le kind hk)

pub looked-up : (kind n d e x j : ℕ) (l lanes : List ℕ) → kind < 2 → Begins (lane_at kind) (256 * runs kind) lanes → e ≡ n % runs kind → x < 256 → x ≡ get_or l j 0
    → j ≡ 144 * partitions kind * ((d + (1152 - n)) % 16) + n / runs kind
    → (get_or lanes (256 * e + x) 0 ≡ column_at kind l n d) × (get_or lanes (256 * e + x) 0 ≤ 4369)
unfolding lane_at column_at
looked-up kind n d e x j l lanes hk table e-is x_lt x-is j-is =
    let e-lt : e < runs kind = rw e-is (mod-lt n (kind-is kind hk).M-pos) in
    let high : (256 * e + x) / 256 ≡ e = omega arith in
    let low : (256 * e + x) % 256 ≡ x = omega arith in
    let found : get_or lanes (256 * e + x) 0 ≡ hex (lane_bit kind e x) = rw (high, low) at (table.is (256 * e + x) (omega arith)) in (
      found ∙ ap₂ (λ (a b : ℕ). hex (lane_bit kind a b)) e-is (x-is ∙ ap (λ (i : ℕ). get_or l i 0) j-is),
      rw found (hex-le (lane_bit kind e x) (λ p h. lane-lt kind e x p)),
    )

pub quad-found : (kind : ℕ) (l : List ℕ) (r z d n i j k m a b c e : ℕ) → d < 16 → n ≡ 36 * r + 4 * z
    → i ≡ 5027 * n % 1152 → j ≡ 5027 * (n + 1) % 1152 → k ≡ 5027 * (n + 2) % 1152 → m ≡ 5027 * (n + 3) % 1152
    → a ≡ column_at kind l i d → b ≡ column_at kind l j d → c ≡ column_at kind l k d → e ≡ column_at kind l m d
    → 8 * a + 4 * b + 2 * c + e ≡ quad_at kind l r (16 * z + d)
unfolding quad_at
quad-found kind l r z d n i j k m a b c e hd n-is i-is j-is k-is m-is a-is b-is c-is e-is =
    let z-is : (16 * z + d) / 16 ≡ z = omega arith in
    let d-is : (16 * z + d) % 16 ≡ d = omega arith in
    rw (z-is, d-is, a-is, b-is, c-is, e-is, i-is, j-is, k-is, m-is, n-is)

-- ---- the byte k of the row r in the block t, byte g of the block

pub number-split : (f : ℕ → ℕ) → 16 * number 4 f + number 4 (λ u. f (4 + u)) ≡ number 8 f
unfolding number
number-split f = omega arith

row-bytes : (kind t r k g : ℕ) → kind < 2 → 2 * k < 9 * partitions kind → 2 * g ≡ 9 * partitions kind * r + 2 * k
    → (2 * k + 1 < 9 * partitions kind)
    × ((u : ℕ) → 1152 * partitions kind * t + (partitions kind * 36 * r + (4 * (2 * k) + u)) ≡ 8 * (144 * partitions kind * t + g) + u)
    × ((u : ℕ) → 1152 * partitions kind * t + (partitions kind * 36 * r + (4 * (2 * k + 1) + u)) ≡ 8 * (144 * partitions kind * t + g) + (4 + u))
unfolding partitions
row-bytes zero t r k g h l e = (omega arith, λ u. omega arith, λ u. omega arith)
row-bytes (suc zero) t r k g h l e = (omega arith, λ u. omega arith, λ u. omega arith)
row-bytes (suc (suc kind)) t r k g h l e = absurd (omega arith)

pub byte-laid : (kind : ℕ) (l : List ℕ) (t r k g a b : ℕ) (quads : List ℕ) → kind < 2 → t < 16 → r < 32 → 2 * k < 9 * partitions kind
    → 2 * g ≡ 9 * partitions kind * r + 2 * k → Begins (quad_at kind l r) 144 quads
    → a ≡ get_or quads (16 * (2 * k % 9) + (t + 9 * (2 * k / 9)) % 16) 0 / 2 ^ (12 - 4 * (2 * k / 9)) % 16
    → b ≡ get_or quads (16 * ((2 * k + 1) % 9) + (t + 9 * ((2 * k + 1) / 9)) % 16) 0 / 2 ^ (12 - 4 * ((2 * k + 1) / 9)) % 16
    → 16 * a + b ≡ byte_of (λ i. bit_at l (source kind i % coded_bits kind)) (144 * partitions kind * t + g)
byte-laid kind l t r k g a b quads hk ht hr hy g-is table a-is b-is =
    let row = row-bytes kind t r k g hk hy g-is in
    let f : ℕ → ℕ = λ u. bit_at l (source kind (8 * (144 * partitions kind * t + g) + u) % coded_bits kind) in
    let high : a ≡ number 4 f =
    a-is ∙ nibble-laid kind l t r hk ht hr (2 * k) hy quads table
    ∙ number-cong 4 _ f (λ u h. ap (λ (i : ℕ). bit_at l (source kind i % coded_bits kind)) (row.1 u)) in
    let low : b ≡ number 4 (λ u. f (4 + u)) =
    b-is ∙ nibble-laid kind l t r hk ht hr (2 * k + 1) row.0 quads table
    ∙ number-cong 4 _ (λ u. f (4 + u)) (λ u h. ap (λ (i : ℕ). bit_at l (source kind i % coded_bits kind)) (row.2 u)) in
    ap₂ (λ (x y : ℕ). 16 * x + y) high low ∙ number-split f

-- ---- the rows, one after another

pub row-sums : (kind r k : ℕ) → kind < 2 → r < 32 → k < 9 * (partitions kind / 2)
    → (9 * (partitions kind / 2) * r ≤ 18 * 31) × (k < 18) × (9 * (partitions kind / 2) * r + k < 144 * partitions kind) × (2 * k < 9 * partitions kind)
    × (2 * (9 * (partitions kind / 2) * r + k) ≡ 9 * partitions kind * r + 2 * k)
unfolding partitions
row-sums zero r k h hr hk = (omega arith, omega arith, omega arith, omega arith, omega arith)
row-sums (suc zero) r k h hr hk = (omega arith, omega arith, omega arith, omega arith, omega arith)
row-sums (suc (suc kind)) r k h hr hk = absurd (omega arith)

pub row_next : (kind r k : ℕ) → kind < 2 → k ≡ 9 * (partitions kind / 2) → 9 * (partitions kind / 2) * (r + 1) ≡ 9 * (partitions kind / 2) * r + k
unfolding partitions
row_next zero r k h e = omega arith
row_next (suc zero) r k h e = omega arith
row_next (suc (suc kind)) r k h e = absurd (omega arith)

pub rows_all : (kind : ℕ) → kind < 2 → 144 * partitions kind ≡ 9 * (partitions kind / 2) * 32
unfolding partitions
rows_all zero h = refl
rows_all (suc zero) h = refl
rows_all (suc (suc kind)) h = absurd (omega arith)

pub laid-at : {kind : ℕ} {l : List ℕ} {g : ℕ} {px : List ℕ} (h : ℕ) → Laid kind l g px → h ≡ g → Laid kind l h px
laid-at h laid e = rw e laid

pub laid_none : (kind : ℕ) (l px : List ℕ) → Laid kind l 0 px
laid_none kind l px = record { is = λ t h ht lh. absurd (omega arith) }
