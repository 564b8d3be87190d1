-- L1 frames one after the other through an internal matrix of PX, there and back: the coded bits of each come back out of its matrix and the two
-- that follow, upon any start memory. Assumes nothing.
use mathlib.Core.Path.{◌≡◌}
use Prim.Native.Nat.{ℕ, ◌+◌, ◌*◌, ◌/◌, ◌%◌, ◌<◌}
use native.Mathlib.Omega.{arith}
use Rattle.interleaving.specs.PX.{coded_bits, cells, place, later}
use Rattle.interleaving.specs.FinderPX.{source}
use Rattle.interleaving.proofs.Conv.{mem_at, out_at, back}
use Rattle.interleaving.proofs.OncePX.{px-each-once}

-- L1 frame t brings the coded bits c t, and L1 frame 0 comes in half h % 2 upon the memory m
module _ (kind h : ℕ) (m : ℕ → ℕ) (c : ℕ → ℕ → ℕ) where
  -- the memory before L1 frame t, and its matrix
  abbrev pub memory : ℕ → ℕ → ℕ
  memory = mem_at (coded_bits kind) (place kind) h m c

  abbrev pub matrix : ℕ → ℕ → ℕ
  matrix = out_at (coded_bits kind) (place kind) h m c

  -- coded bit j of L1 frame t stands at `later` in the matrices of L1 frames t to t + 2, laid end to end
  pub coded-bit-back : kind < 2 → (t j : ℕ) → j < coded_bits kind
      → (later kind ((h + t) % 2) j < 3 * coded_bits kind)
      × (matrix (t + later kind ((h + t) % 2) j / coded_bits kind) (later kind ((h + t) % 2) j % coded_bits kind) ≡ c t j)
  unfolding later
  coded-bit-back hk t j l =
      let size : cells kind ≡ 2 * coded_bits kind = omega arith in
      back (coded_bits kind) (place kind) (source kind)
      (λ i l. omega (arith, (px-each-once kind hk).there i (omega arith)))
      (λ i l. (px-each-once kind hk).there_back i (omega arith))
      h m c (omega arith) t j _ l (rw size)
