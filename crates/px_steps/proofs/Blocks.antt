-- The step that writes a cell, by the cell's block and its place there: how many blocks on the place is from the turn that writes it hangs on the place alone.
-- Assumes nothing.
use mathlib.Core.Path.{◌≡◌, sym, ◌∙◌}
use Prim.Native.Nat.{ℕ, zero, suc, ◌+◌, ◌-◌, ◌*◌, ◌/◌, ◌%◌, ◌<◌}
use native.Mathlib.Omega.{arith}
use Rattle.interleaving.specs.InverseIV as Inv
use Rattle.interleaving.specs.PX.{partitions, runs, coded_bytes, coded_bits, cells}
use Rattle.interleaving.specs.FinderPX.{source}
use Rattle.px_steps.proofs.Early.{written_at}

-- how many blocks on the place is from the turn that writes it, and that step in its turn
abbrev pub ahead_of : (kind x : ℕ) → ℕ
ahead_of kind x = (12 * (x / (partitions kind * 36)) + 3 * (x % (partitions kind * 36) % 36) + 7 * (x % (partitions kind * 36) / 36)) % 32

abbrev pub within_of : (kind x : ℕ) → ℕ
within_of kind x = Inv.index (partitions kind) (runs kind) (x % (partitions kind * 36) / 36) (5027 * (x / (partitions kind * 36) * 36 + x % (partitions kind * 36) % 36) % 1152)

index_on : (kind p t y : ℕ) → kind < 2 → p < partitions kind → y < 1152
    → (Inv.index (partitions kind) (runs kind) p (t * 1152 + y) ≡ t * (1152 * partitions kind) + Inv.index (partitions kind) (runs kind) p y)
    × (Inv.index (partitions kind) (runs kind) p y < 1152 * partitions kind)
unfolding Inv.index Inv.missed partitions runs
index_on zero p t y h hp hy = (omega arith, omega arith)
index_on (suc zero) p t y h hp hy = (omega arith, omega arith)
index_on (suc (suc kind)) p t y h hp hy = absurd (omega arith)

pub rows_on : (kind b x : ℕ) → kind < 2 → x < 1152 * partitions kind
    → ((1152 * partitions kind * b + x) / (partitions kind * 36) ≡ 32 * b + x / (partitions kind * 36))
    × ((1152 * partitions kind * b + x) % (partitions kind * 36) ≡ x % (partitions kind * 36))
    × (x / (partitions kind * 36) < 32) × (x % (partitions kind * 36) / 36 < partitions kind)
unfolding partitions
rows_on zero b x h l = (omega arith, omega arith, omega arith, omega arith)
rows_on (suc zero) b x h l = (omega arith, omega arith, omega arith, omega arith)
rows_on (suc (suc kind)) b x h l = absurd (omega arith)

pub cell-lt : (kind b x : ℕ) → kind < 2 → b < 32 → x < 1152 * partitions kind → 1152 * partitions kind * b + x < cells kind
unfolding partitions coded_bytes
cell-lt zero b x h hb hx = omega arith
cell-lt (suc zero) b x h hb hx = omega arith
cell-lt (suc (suc kind)) b x h hb hx = absurd (omega arith)

module _ (kind b x : ℕ) (hk : kind < 2) (hb : b < 32) (hx : x < 1152 * partitions kind) where
  pub source-block : (source kind (1152 * partitions kind * b + x) ≡ (b + (32 - ahead_of kind x)) % 32 * (1152 * partitions kind) + within_of kind x)
      × (within_of kind x < 1152 * partitions kind)
  source-block =
      let r : ℕ = x / (partitions kind * 36) in
      let z : ℕ = x % (partitions kind * 36) in
      let on = rows_on kind b x hk hx in
      let r-lt : r < 32 = on.2 in
      let row : (32 * b + r) / 32 ≡ b = omega arith in
      let low : (32 * b + r) % 32 ≡ r = omega arith in
      let s-is : ahead_of kind x ≡ (12 * ((32 * b + r) % 32) + 3 * (z % 36) + 7 * (z / 36)) % 32 = rw low in
      let e = written_at kind (1152 * partitions kind * b + x) (32 * b + r) z (ahead_of kind x) hk (cell-lt kind b x hk hb hx) (sym on.0) (sym on.1) s-is in
      let turn = index_on kind (z / 36) ((b + (32 - ahead_of kind x)) % 32) (5027 * (r * 36 + z % 36) % 1152) hk on.3 (omega arith) in
      (sym (rw (row, low) at e) ∙ turn.0, turn.1)

-- counted within its L1 frame: t is a turn from 0 to 31, and o a step in it
pub turn-mod : (kind t o : ℕ) → kind < 2 → t < 32 → o < 1152 * partitions kind → (t * (1152 * partitions kind) + o) % coded_bits kind ≡ t % 16 * (1152 * partitions kind) + o
unfolding partitions coded_bytes
turn-mod zero t o h ht l = omega arith
turn-mod (suc zero) t o h ht l = omega arith
turn-mod (suc (suc kind)) t o h ht l = absurd (omega arith)
