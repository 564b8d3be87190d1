-- `coding::unit_bits` meets its contract: the words of the bytes of x sum up to its own. Assumes nothing.
use mathlib.Core.Path.{◌≡◌, ◌∙◌}
use mathlib.Core.Bool.{true}
use Prim.Native.Nat.{ℕ, ◌*◌, ◌/◌, ◌%◌, ◌^◌, ◌<◌}
use lib.Dec.{lit<}
use lib.ListN.{get_or}
use Rattle.coding.specs.Units.{placed, word_of}
use Rattle.coding.proofs.Sums.{word_first, word-all, word_at, word_next, place-0, place-1, place-2, place-3, place-4, place-5, place-6}
use Rattle.coding.proofs.unit_bits.Goals as goal

pub returns : goal.returns
returns c =
    let a = c.args in
    let pre = c.requires in
    let rate = a.rate in
    let at : (k b : ℕ) → k < 7 → (b ≡ a.x / 2 ^ (8 * k) % 256) × (b < 256)
    → placed rate true k (get_or a.table.now b 0) ≡ word_of rate true (a.x / 2 ^ (8 * k) % 256 * 2 ^ (8 * k)) =
    λ k b l h. word_at rate true a.x k b pre.0 l h in
    let next = word_next rate true a.x in
    let s₁ = word_first rate true a.x 48 _ pre.1 (place-6 rate _ ∙ at 6 c.byte_of.result (lit< tt) c.byte_of.ensures) in
    let s₂ = next 40 _ _ s₁ (place-5 rate _ ∙ at 5 c.byte_of-2.result (lit< tt) c.byte_of-2.ensures) in
    let s₃ = next 32 _ _ s₂ (place-4 rate _ ∙ at 4 c.byte_of-3.result (lit< tt) c.byte_of-3.ensures) in
    let s₄ = next 24 _ _ s₃ (place-3 rate _ ∙ at 3 c.byte_of-4.result (lit< tt) c.byte_of-4.ensures) in
    let s₅ = next 16 _ _ s₄ (place-2 rate _ ∙ at 2 c.byte_of-5.result (lit< tt) c.byte_of-5.ensures) in
    let s₆ = next 8 _ _ s₅ (place-1 rate _ ∙ at 1 c.byte_of-6.result (lit< tt) c.byte_of-6.ensures) in
    let s₇ = next 0 _ _ s₆ (place-0 rate _ ∙ at 0 c.byte_of-7.result (lit< tt) c.byte_of-7.ensures) in
    word-all rate true a.x _ s₇
