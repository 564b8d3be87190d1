-- `source_at` meets its contract. Assumes nothing.
use mathlib.Core.Path.{sym, ap, ◌∙◌}
use Prim.Native.Nat.{ℕ}
use borrow.Author.Tests.{lt-ltb, le-ltb}
use Rattle.subcarriers.specs.Tables.{source_at, source_of}
use Rattle.subcarriers.proofs.source_at.Goals as goal

pub returns-then-not-is_mapped : goal.returns-then-not-is_mapped
unfolding source_at
returns-then-not-is_mapped c = rw (sym c.is_mapped.ensures ∙ c.if-not-is_mapped.true)

pub returns-then-k-ge1093 : goal.returns-then-k-ge1093
unfolding source_at
returns-then-k-ge1093 c = rw (sym c.is_mapped.ensures ∙ c.if-not-is_mapped.false, le-ltb _ _ c.if-k-ge1093.true)

pub mode_number-requires : goal.mode_number-requires
mode_number-requires c = sym c.is_mapped.ensures ∙ c.if-not-is_mapped.false

pub source_of-requires : goal.source_of-requires
source_of-requires c = (c.mode_number.ensures.0, c.if-k-ge1093.false)

pub returns : goal.returns
unfolding source_at
returns c =
    rw (sym c.is_mapped.ensures ∙ c.if-not-is_mapped.false, lt-ltb _ _ c.if-k-ge1093.false)
    (c.source_of.ensures ∙ ap (λ (m : ℕ). source_of m c.args.k) c.mode_number.ensures.1)
