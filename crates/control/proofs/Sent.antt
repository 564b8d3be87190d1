-- The sixteen blocks of a mode's control are those of the mode and the counts 0 to 15, so the control sent departs at no block. Assumes nothing.
use mathlib.Core.Path.{◌≡◌, ap, ap₂, ◌∙◌}
use Prim.Native.Nat.{ℕ, ◌+◌, ◌-◌, ◌*◌, ◌/◌, ◌%◌, ◌<◌}
use mathlib.Core.List.{List}
use mathlib.Core.Bool.{false, not}
use native.Mathlib.Omega.{arith}
use lib.ListN.{length, take, drop}
use Rattle.bits.specs.Bits.{packed}
use Rattle.bits.specs.Tests.{same}
use Rattle.bits.proofs.Tests.{same_refl}
use Rattle.bits.proofs.Packed.{length-packed, packed-cong}
use Rattle.bits.proofs.Parts.{take-packed, drop-packed}
use Rattle.control.specs.Control.{block_bit, control_bit, block_of, control_of}
use Rattle.control.specs.Departs.{block_at, departs}

pub control-length : (mode reserved : ℕ) → length (control_of mode reserved) ≡ 4096
unfolding control_of
control-length mode reserved = length-packed 4096 _

pub block-length : (mode count reserved : ℕ) → length (block_of mode count reserved) ≡ 256
unfolding block_of
block-length mode count reserved = length-packed 256 _

-- block c of the control
pub block-bits : (mode reserved c : ℕ) → packed 256 (λ i. control_bit mode reserved (8 * (c * 256) + i)) ≡ block_of mode c reserved
unfolding block_of control_bit
block-bits mode reserved c =
    packed-cong 256 _ _
    (λ i l.
    let q : (8 * (c * 256) + i) / 2048 ≡ c = omega arith in
    let r : (8 * (c * 256) + i) % 2048 ≡ i = omega arith in
    ap₂ (λ (a b : ℕ). block_bit mode a reserved b) q r)

-- ---- the control sent

pub block-at : (mode reserved c : ℕ) → c < 16 → block_at (control_of mode reserved) c ≡ block_of mode c reserved
unfolding block_at control_of
block-at mode reserved c h =
    let f : ℕ → ℕ = control_bit mode reserved in
    let e : 4096 ≡ c * 256 + (4096 - c * 256) = omega arith in
    let d : 4096 - c * 256 ≡ 256 + (4096 - c * 256 - 256) = omega arith in
    ap (λ (n : ℕ). take 256 (drop (c * 256) (packed n f))) e
    ∙ ap (take 256) (drop-packed (c * 256) (4096 - c * 256) f)
    ∙ ap (λ (n : ℕ). take 256 (packed n (λ i. f (8 * (c * 256) + i)))) d
    ∙ take-packed 256 (4096 - c * 256 - 256) (λ i. f (8 * (c * 256) + i))
    ∙ block-bits mode reserved c

pub control-good : (mode reserved c : ℕ) → c < 16 → departs mode reserved (control_of mode reserved) c ≡ false
unfolding departs
control-good mode reserved c h =
    ap (λ (l : List ℕ). not (same l (block_of mode c reserved))) (block-at mode reserved c h)
    ∙ ap not (same_refl (block_of mode c reserved))
