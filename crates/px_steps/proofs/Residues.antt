-- The bytes of an L1 frame, stored by the byte of a turn: sixteen turns of 144 * J bytes. Assumes nothing.
use mathlib.Core.Path.{◌≡◌, sym, ap, ◌∙◌}
use mathlib.Core.List.{List}
use Prim.Native.Nat.{ℕ, zero, suc, ◌+◌, ◌*◌, ◌/◌, ◌%◌, ◌≤◌, ◌<◌}
use native.Mathlib.Nat.{mul-le-mul}
use native.Mathlib.Decide.{ℕ_discrete}
use native.Mathlib.Omega.{arith}
use lib.ListN.{get_or, length, set}
use lib.Seq.{ext_get_or, get_or-set_same, get_or-set_other}
use Rattle.bits.specs.Bits.{byte_of, packed}
use Rattle.bits.proofs.Packed.{length-packed, get_or-packed}
use Rattle.interleaving.specs.PX.{partitions, runs, coded_bytes, coded_bits}
use Rattle.interleaving.proofs.PXKinds.{coded_bytes-le}

pub in_frame : (kind t g u : ℕ) → kind < 2 → t < 16 → g < 144 * partitions kind → u < 8
    → (144 * partitions kind * t + g < coded_bytes kind) × (8 * (144 * partitions kind * t + g) + u < coded_bits kind)
unfolding partitions coded_bytes
in_frame zero t g u h ht hg hu = (omega arith, omega arith)
in_frame (suc zero) t g u h ht hg hu = (omega arith, omega arith)
in_frame (suc (suc kind)) t g u h ht hg hu = absurd (omega arith)

-- the entries of a byte in its turn
pub in-entries : (kind g : ℕ) → kind < 2 → g < 144 * partitions kind → (g * runs kind + runs kind ≤ 1152) × (8 * g + 8 ≤ coded_bits kind)
unfolding partitions runs coded_bytes
in-entries zero g h hg = (omega arith, omega arith)
in-entries (suc zero) g h hg = (omega arith, omega arith)
in-entries (suc (suc kind)) g h hg = absurd (omega arith)

apart : (kind t s g h : ℕ) → kind < 2 → h < g → g < 144 * partitions kind → 144 * partitions kind * s + h ≡ 144 * partitions kind * t + g → ⊥
unfolding partitions
apart zero t s g h hk hh hg e = omega arith
apart (suc zero) t s g h hk hh hg e = omega arith
apart (suc (suc kind)) t s g h hk hh hg e = absurd (omega arith)

apart-turns : (kind t s g : ℕ) → kind < 2 → s < t → 144 * partitions kind * s + g ≡ 144 * partitions kind * t + g → ⊥
unfolding partitions
apart-turns zero t s g hk l e = omega arith
apart-turns (suc zero) t s g hk l e = omega arith
apart-turns (suc (suc kind)) t s g hk l e = absurd (omega arith)

-- the byte j, that of the turn t, is set to x
module _ (kind g t j x : ℕ) (out : List ℕ) (hk : kind < 2) (hg : g < 144 * partitions kind) (ht : t < 16)
    (j-is : j ≡ 144 * partitions kind * t + g) (long : length out ≡ coded_bytes kind) where
  pub turn_more : (f : ℕ → ℕ) → ((s : ℕ) → s < t → get_or out (144 * partitions kind * s + g) 0 ≡ f (144 * partitions kind * s + g))
      → x ≡ f (144 * partitions kind * t + g)
      → (s : ℕ) → s < t + 1 → get_or (set out j x) (144 * partitions kind * s + g) 0 ≡ f (144 * partitions kind * s + g)
  turn_more f was x-is s l =
      elim (ℕ_discrete s t) [
        | yes e ↦
            let j-lt : j < length out = omega (arith, (in_frame kind t g 0 hk ht hg (omega arith)).0) in
            rw (e, ← j-is) (get_or-set_same out j x 0 j-lt ∙ rw j-is x-is)
        | no d ↦
            let s-lt : s < t = omega arith in
            get_or-set_other out j (144 * partitions kind * s + g) x 0 (λ e. apart-turns kind t s g hk s-lt (e ∙ j-is)) ∙ was s s-lt
      ]

  pub others-stay : (s h : ℕ) → h < g → get_or (set out j x) (144 * partitions kind * s + h) 0 ≡ get_or out (144 * partitions kind * s + h) 0
  others-stay s h l = get_or-set_other out j (144 * partitions kind * s + h) x 0 (λ e. apart kind t s g h hk l hg (e ∙ j-is))

-- the bytes of one residue more
pub residue-more : (kind g : ℕ) (f : ℕ → ℕ) (was out : List ℕ)
    → ((t h : ℕ) → t < 16 → h < g → get_or was (144 * partitions kind * t + h) 0 ≡ f (144 * partitions kind * t + h))
    → ((t : ℕ) → t < 16 → get_or out (144 * partitions kind * t + g) 0 ≡ f (144 * partitions kind * t + g))
    → ((t h : ℕ) → h < g → get_or out (144 * partitions kind * t + h) 0 ≡ get_or was (144 * partitions kind * t + h) 0)
    → (t h : ℕ) → t < 16 → h < g + 1 → get_or out (144 * partitions kind * t + h) 0 ≡ f (144 * partitions kind * t + h)
residue-more kind g f was out before here stay t h ht l =
    elim (ℕ_discrete h g) [
      | yes e ↦ rw e (here t ht)
      | no d ↦ let h-lt : h < g = omega arith in stay t h h-lt ∙ before t h ht h-lt
    ]

split : (kind j : ℕ) → kind < 2 → j < coded_bytes kind
    → (144 * partitions kind * (j / (144 * partitions kind)) + j % (144 * partitions kind) ≡ j)
    × (j / (144 * partitions kind) < 16) × (j % (144 * partitions kind) < 144 * partitions kind)
unfolding partitions coded_bytes
split zero j h l = (omega arith, omega arith, omega arith)
split (suc zero) j h l = (omega arith, omega arith, omega arith)
split (suc (suc kind)) j h l = absurd (omega arith)

-- all of them
pub residues-all : (kind g : ℕ) (f : ℕ → ℕ) (out : List ℕ) → kind < 2 → length out ≡ coded_bytes kind → 144 * partitions kind ≤ g
    → ((t h : ℕ) → t < 16 → h < g → get_or out (144 * partitions kind * t + h) 0 ≡ byte_of f (144 * partitions kind * t + h))
    → out ≡ packed (coded_bytes kind) f
residues-all kind g f out hk long hg all =
    ext_get_or 0 out (packed (coded_bytes kind) f) (long ∙ sym (length-packed (coded_bytes kind) f))
    (λ j l.
    let j-lt : j < coded_bytes kind = omega arith in
    let parts = split kind j hk j-lt in
    let e = all (j / (144 * partitions kind)) (j % (144 * partitions kind)) parts.1 (omega (arith, parts.2)) in
    (rw parts.0 at e) ∙ sym (get_or-packed (coded_bytes kind) f j j-lt))

-- ---- the code's products fit

pub turn-le : (w t : ℕ) → w ≤ 4608 → t < 16 → w * t ≤ 4608 * 15
turn-le w t h l = mul-le-mul {n₂ = 4608} {m₂ = 15} h (omega arith)

pub size-le : (kind : ℕ) → kind < 2 → 144 * partitions kind ≤ 576
unfolding partitions
size-le zero h = omega arith
size-le (suc zero) h = omega arith
size-le (suc (suc kind)) h = absurd (omega arith)

-- where the code stores the byte g of the block t, w the cells of a block

pub stored_at : (kind w t g : ℕ) → kind < 2 → t < 16 → g < 144 * partitions kind → w ≡ 1152 * partitions kind → w ≤ 4608
    → (w / 8 * t + g ≡ 144 * partitions kind * t + g) × (w / 8 * t + g < coded_bytes kind) × (w / 8 * t ≤ 4608 * 15) × (coded_bytes kind ≤ 9216)
stored_at kind w t g hk ht hg w-is w_le =
    let size : w / 8 ≡ 144 * partitions kind = omega arith in
    let e : w / 8 * t + g ≡ 144 * partitions kind * t + g = ap (λ (v : ℕ). v * t + g) size in
    (e, rw e (in_frame kind t g 0 hk ht hg (omega arith)).0, turn-le (w / 8) t (omega arith) ht, coded_bytes-le kind hk)
