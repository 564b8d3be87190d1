use mathlib.Core.Path.{◌≡◌, ap, ◌∙◌}
use Prim.Native.Nat.{ℕ, ◌+◌, ◌*◌}
use native.Mathlib.Omega.{arith}
use Rattle.bits.specs.Bits.{packed}
use Rattle.bits.proofs.Stores.{stored-none, stored-all}
use Rattle.control.specs.Control.{encoded, block_bit, block_of}
use Rattle.control.proofs.Rows.{row-digits, row-byte, row-stored, byte-0, byte-1, byte-2, byte-3, byte-4, byte-5, byte-6, byte-7}
use Rattle.control.proofs.Packing.{encoded-lt}
use Rattle.control.proofs.fill_block.Goals as goal

pub loop-row-init : goal.loop-row-init
loop-row-init c = stored-none (block_bit _ _ _) c.args.out.now

pub loop-row-preserved : goal.loop-row-preserved
loop-row-preserved c =
    let row = c.loop-row.row in
    let a = c.args in
    let y : ℕ → ℕ = λ i. encoded a.mode a.count a.reserved i row in
    let e₀ = c.column_of-a.ensures in
    let e₁ = c.column_of-b.ensures in
    let e₂ = c.column_of-c.ensures in
    let e₃ = c.column_of-d.ensures in
    let four = row-digits a.mode a.count a.reserved row in
    let first : c.four-first.result ≡ y 0 * 8 + y 1 * 4 + y 2 * 2 + y 3 = c.four-first.ensures ∙ four 0 1 2 3 _ _ _ _ (omega arith) e₀ e₁ e₂ e₃ in
    let middle : c.four-middle.result ≡ y 0 * 8 + y 1 * 4 + y 2 * 2 + y 1 = c.four-middle.ensures ∙ four 0 1 2 1 _ _ _ _ (omega arith) e₀ e₁ e₂ e₁ in
    let last : c.four-last.result ≡ y 0 * 8 + y 3 * 4 + y 2 * 2 + y 1 = c.four-last.ensures ∙ four 0 3 2 1 _ _ _ _ (omega arith) e₀ e₃ e₂ e₁ in
    let byte = row-byte a.mode a.count a.reserved row in
    let next : row * 8 + 8 ≡ (row + 1) * 8 = omega arith in
    rw next at (row-stored (row * 8) _ _ _ _ c.loop-row.invariant (omega arith)
    (byte-0 y _ first ∙ byte _ 0 (omega arith) (omega arith))
    (byte-1 y _ first ∙ byte _ 1 (omega arith) (omega arith))
    (byte-2 y _ first ∙ byte _ 2 (omega arith) (omega arith))
    (byte-3 y _ first _ middle ∙ byte _ 3 (omega arith) (omega arith))
    (byte-4 y _ last ∙ byte _ 4 (omega arith) (omega arith))
    (byte-5 y _ last ∙ byte _ 5 (omega arith) (omega arith))
    (byte-6 y _ last ∙ byte _ 6 (omega arith) (omega arith))
    (byte-7 y _ last (λ i. encoded-lt a.mode a.count a.reserved i row) ∙ byte _ 7 (omega arith) (omega arith)))

pub returns : goal.returns
unfolding block_of
returns c =
    let a = c.args in
    stored-all c.loop-row.invariant (omega arith)
    ∙ ap (λ (n : ℕ). packed n (block_bit a.mode a.count a.reserved)) c.requires.3
