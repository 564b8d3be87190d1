-- The control of an L1 frame as the code goes through it, block by block. Assumes nothing.
use mathlib.Core.Path.{◌≡◌, sym, ap, ap₂, ◌∙◌}
use mathlib.Core.List.{List, ◌++◌, append_assoc}
use mathlib.Core.Bool.{not}
use Prim.Native.Nat.{ℕ, ◌+◌, ◌-◌, ◌*◌, ◌<◌}
use native.Mathlib.Omega.{arith}
use lib.ListN.{length, take, drop, length-append}
use lib.Seq.{take_all, take_at, length-take-le}
use borrow.Rule.Slice.PartMut.{put_mid}
use Rattle.bits.specs.Bits.{packed}
use Rattle.bits.specs.Tests.{same}
use Rattle.bits.proofs.Parts.{packed-append}
use Rattle.control.specs.Control.{control_bit, block_of, control_of}
use Rattle.control.specs.Departs.{block_at, departs}
use Rattle.control.proofs.Sent.{block-bits, block-length}

-- the test of the part that is lent for block c
pub departs-part : (mode reserved c : ℕ) (control : List ℕ)
    → not (same (take (c * 256 + 256 - c * 256) (drop (c * 256) control)) (block_of mode c reserved)) ≡ departs mode reserved control c
unfolding departs block_at
departs-part mode reserved c control =
    let e : c * 256 + 256 - c * 256 ≡ 256 = omega arith in
    ap (λ (n : ℕ). not (same (take n (drop (c * 256) control)) (block_of mode c reserved))) e

-- one turn: block c is written
pub control-more : (mode reserved c : ℕ) (out block : List ℕ) → length out ≡ 4096 → c < 16
    → take (c * 256) out ≡ packed (c * 256) (control_bit mode reserved) → block ≡ block_of mode c reserved
    → take ((c + 1) * 256) (put_mid (c * 256) (c * 256 + 256 - c * 256) out block) ≡ packed ((c + 1) * 256) (control_bit mode reserved)
control-more mode reserved c out block e h front back =
    let f : ℕ → ℕ = control_bit mode reserved in
    let n : (c + 1) * 256 ≡ c * 256 + 256 = omega arith in
    let l : length (take (c * 256) out ++ block) ≡ c * 256 + 256 =
    length-append (take (c * 256) out) block
    ∙ ap₂ (λ (p q : ℕ). p + q) (length-take-le (c * 256) out (omega arith)) (ap length back ∙ block-length mode c reserved)
    in
    ap (λ (i : ℕ). take i (put_mid (c * 256) (c * 256 + 256 - c * 256) out block)) n
    ∙ ap (take (c * 256 + 256)) (sym (append_assoc (take (c * 256) out) block (drop (c * 256 + 256 - c * 256) (drop (c * 256) out))))
    ∙ take_at (take (c * 256) out ++ block) (drop (c * 256 + 256 - c * 256) (drop (c * 256) out)) (c * 256 + 256) l
    ∙ ap₂ {C = List ℕ} (λ (x y : List ℕ). x ++ y) front (back ∙ sym (block-bits mode reserved c))
    ∙ packed-append (c * 256) 256 f
    ∙ ap (λ (i : ℕ). packed i f) (sym n)

-- the end: all blocks are written
pub control-all : (mode reserved c : ℕ) (out : List ℕ) → length out ≡ 4096 → c ≡ 16
    → take (c * 256) out ≡ packed (c * 256) (control_bit mode reserved) → out ≡ control_of mode reserved
unfolding control_of
control-all mode reserved c out e h front =
    let n : c * 256 ≡ 4096 = omega arith in
    sym (take_all (c * 256) out (omega arith)) ∙ front ∙ ap (λ (i : ℕ). packed i (control_bit mode reserved)) n
