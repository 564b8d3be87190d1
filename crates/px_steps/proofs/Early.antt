-- Which steps read their cell before it is written, by turns: a cell s blocks on from the turn that writes it is written in an earlier turn than its
-- block's where s is at most the block's number, and in a later one where s is more. Assumes nothing.
use mathlib.Core.Path.{◌≡◌, sym, ap, ◌∙◌}
use mathlib.Core.Bool.{true, false}
use Prim.Native.Nat.{ℕ, zero, suc, ◌+◌, ◌-◌, ◌*◌, ◌/◌, ◌%◌, ◌≤◌, ◌<◌}
use native.Mathlib.Omega.{arith}
use lib.Dec.{ltb}
use borrow.Author.Tests.{lt-ltb, le-ltb}
use Rattle.interleaving.specs.InverseIV as Inv
use Rattle.interleaving.specs.PX.{partitions, runs, coded_bytes, cells}
use Rattle.interleaving.specs.FinderPX.{source}
use Rattle.px_steps.proofs.Cells.{source_is, part-of-lt}

-- the step that writes the entry y of the turn t is one of that turn's
index-turn : (kind p t y : ℕ) → kind < 2 → p < partitions kind → y < 1152
    → (t * (1152 * partitions kind) ≤ Inv.index (partitions kind) (runs kind) p (t * 1152 + y))
    × (Inv.index (partitions kind) (runs kind) p (t * 1152 + y) < (t + 1) * (1152 * partitions kind))
unfolding Inv.index Inv.missed partitions runs
index-turn zero p t y h hp hy = (omega arith, omega arith)
index-turn (suc zero) p t y h hp hy = (omega arith, omega arith)
index-turn (suc (suc kind)) p t y h hp hy = absurd (omega arith)

skew : (p r c : ℕ) → (5027 * (r * 36 + c) % 1152 + p * 7) % 32 ≡ (12 * r + 3 * c + 7 * p) % 32
skew p r c = omega arith

count-is : (p b r c : ℕ) → Inv.count 32 36 5027 p b r c ≡ (b + (32 - (12 * r + 3 * c + 7 * p) % 32)) % 32 * 1152 + 5027 * (r * 36 + c) % 1152
unfolding Inv.count Inv.turn Inv.place_in
count-is p b r c = ap (λ (s : ℕ). (b + (32 - s)) % 32 * 1152 + 5027 * (r * 36 + c) % 1152) (skew p r c)

-- a cell in its block
block_of : (kind c y : ℕ) → kind < 2 → y ≡ c / (partitions kind * 36) → (y / 32 * (1152 * partitions kind) ≤ c) × (c < (y / 32 + 1) * (1152 * partitions kind))
unfolding partitions
block_of zero c y h y-is = (omega arith, omega arith)
block_of (suc zero) c y h y-is = (omega arith, omega arith)
block_of (suc (suc kind)) c y h y-is = absurd (omega arith)

-- two steps of different turns
turns-apart : (kind t b c s : ℕ) → kind < 2 → t * (1152 * partitions kind) ≤ s → s < (t + 1) * (1152 * partitions kind)
    → b * (1152 * partitions kind) ≤ c → c < (b + 1) * (1152 * partitions kind) → (b < t → c < s) × (t < b → s ≤ c)
unfolding partitions
turns-apart zero t b c s h s0 s1 c0 c1 = (λ l. omega arith, λ l. omega arith)
turns-apart (suc zero) t b c s h s0 s1 c0 c1 = (λ l. omega arith, λ l. omega arith)
turns-apart (suc (suc kind)) t b c s h s0 s1 c0 c1 = absurd (omega arith)

-- s blocks on
turn-later : (b s : ℕ) → b < 32 → s < 32 → b < s → b < (b + (32 - s)) % 32
turn-later b s hb hs l = omega arith

turn-earlier : (b s : ℕ) → b < 32 → 0 < s → s ≤ b → (b + (32 - s)) % 32 < b
turn-earlier b s hb hs l = omega arith

block-lt : (kind c y : ℕ) → kind < 2 → y ≡ c / (partitions kind * 36) → c < cells kind → y / 32 < 32
unfolding partitions coded_bytes
block-lt zero c y h y-is l = omega arith
block-lt (suc zero) c y h y-is l = omega arith
block-lt (suc (suc kind)) c y h y-is l = absurd (omega arith)

module _ (kind c y z s : ℕ) (hk : kind < 2) (hc : c < cells kind) (y-is : y ≡ c / (partitions kind * 36)) (z-is : z ≡ c % (partitions kind * 36))
    (s-is : s ≡ (12 * (y % 32) + 3 * (z % 36) + 7 * (z / 36)) % 32) where
  pub written_at : Inv.index (partitions kind) (runs kind) (z / 36) ((y / 32 + (32 - s)) % 32 * 1152 + 5027 * (y % 32 * 36 + z % 36) % 1152) ≡ source kind c
  written_at =
      ap (λ (t : ℕ). Inv.index (partitions kind) (runs kind) (z / 36) ((y / 32 + (32 - t)) % 32 * 1152 + 5027 * (y % 32 * 36 + z % 36) % 1152)) s-is
      ∙ ap (Inv.index (partitions kind) (runs kind) (z / 36)) (sym (count-is (z / 36) (y / 32) (y % 32) (z % 36)))
      ∙ source_is kind hk c y z y-is z-is hc

  pub apart-turns : (y / 32 < (y / 32 + (32 - s)) % 32 → c < source kind c) × ((y / 32 + (32 - s)) % 32 < y / 32 → source kind c ≤ c)
  apart-turns =
      let p-lt : z / 36 < partitions kind = part-of-lt kind hk c y z y-is z-is hc in
      let at = index-turn kind (z / 36) ((y / 32 + (32 - s)) % 32) (5027 * (y % 32 * 36 + z % 36) % 1152) hk p-lt (omega arith) in
      let within = rw written_at at at in
      let own = block_of kind c y hk y-is in
      turns-apart kind ((y / 32 + (32 - s)) % 32) (y / 32) c (source kind c) hk within.0 within.1 own.0 own.1

  pub unwritten-yes : y / 32 < s → true ≡ ltb c (source kind c)
  unwritten-yes l = sym (lt-ltb c (source kind c) (apart-turns.0 (turn-later (y / 32) s (block-lt kind c y hk y-is hc) (omega (arith, s-is)) l)))

  pub unwritten-no : s ≤ y / 32 → 0 < s → false ≡ ltb c (source kind c)
  unwritten-no l h = sym (le-ltb c (source kind c) (apart-turns.1 (turn-earlier (y / 32) s (block-lt kind c y hk y-is hc) h l)))
