-- The tables by slots are the tables of section 12: one test, computed over every element of every mode. Assumes nothing.
use mathlib.Core.Path.{◌≡◌, refl, sym, ap, ap₂, ◌∙◌}
use mathlib.Core.Bool.{Bool, true}
use Prim.Native.Nat.{ℕ, zero, suc, ◌+◌, ◌-◌, ◌*◌, ◌/◌, ◌%◌, ◌<◌, ◌≤◌}
use native.Mathlib.Omega.{arith}
use borrow.Author.Tests.{lt-ltb, le-ltb}
use lib.Dec.{T, eqb, eqb→eq}
use lib.ListN.{length, get_or}
use Rattle.bits.specs.Tests.{all}
use Rattle.bits.proofs.Tests.{all-at}
use Rattle.subcarriers.specs.declared.Source.{Source}
use Rattle.subcarriers.specs.declared.Source.TheVariants.{Unused, Pm, Px1, Px2, Control}
use Rattle.subcarriers.specs.Slots.{mode_at, placed_source, slot_source, partition_source, column_source, column_table, partition_table}
use Rattle.subcarriers.specs.Tables.{mapped, mapped_modes, source_of, in_rows, in_references, rows_of, references_of, lower_main, upper_main, extended2, extended3, extended11, lower_references, upper_references, references2, references3, references11}
use Rattle.subcarriers.proofs.Mapped.{mapped-place}

-- ---- sources as numbers

abbrev pub code : Source → ℕ
code Unused = 0
code (Pm c) = suc (c * 4 + 0)
code (Px1 c) = suc (c * 4 + 1)
code (Px2 c) = suc (c * 4 + 2)
code (Control c) = suc (c * 4 + 3)

abbrev named : ℕ → ℕ → Source
named zero c = Pm c
named (suc zero) c = Px1 c
named (suc (suc zero)) c = Px2 c
named (suc (suc (suc n))) c = Control c

abbrev decoded : ℕ → Source
decoded zero = Unused
decoded (suc n) = named (n % 4) (n / 4)

quotient : (c r : ℕ) → r < 4 → (c * 4 + r) / 4 ≡ c
quotient c r h = omega arith

remainder : (c r : ℕ) → r < 4 → (c * 4 + r) % 4 ≡ r
remainder c r h = omega arith

back : (s : Source) → decoded (code s) ≡ s
back Unused = refl
back (Pm c) = ap₂ named (remainder c 0 (omega arith)) (quotient c 0 (omega arith))
back (Px1 c) = ap₂ named (remainder c 1 (omega arith)) (quotient c 1 (omega arith))
back (Px2 c) = ap₂ named (remainder c 2 (omega arith)) (quotient c 2 (omega arith))
back (Control c) = ap₂ named (remainder c 3 (omega arith)) (quotient c 3 (omega arith))

pub same_code : (s t : Source) → T (eqb (code s) (code t)) → s ≡ t
same_code s t e = sym (back s) ∙ ap decoded (eqb→eq (code s) (code t) e) ∙ back t

-- ---- the test

unfoldable agrees : ℕ → Bool
agrees n = all 1093 (λ k. eqb (code (placed_source n k)) (code (source_of (mode_at n) k)))

tested : T (all 4 agrees)
unfolding all agrees placed_source slot_source partition_source column_source column_table partition_table source_of in_rows in_references rows_of references_of lower_main upper_main extended2 extended3 extended11 lower_references upper_references references2 references3 references11
tested = tt

by_slots : (n k : ℕ) → n < 4 → k < 1093 → placed_source n k ≡ source_of (mode_at n) k
unfolding agrees
by_slots n k h l = same_code _ _ (all-at 1093 (λ k. eqb (code (placed_source n k)) (code (source_of (mode_at n) k))) (all-at 4 agrees tested n h) k l)

module _ (n k : ℕ) (h : n < 4) where
  pub in-lower : k < 267 → slot_source n (k / 19) (k % 19) ≡ source_of (mode_at n) k
  unfolding placed_source
  in-lower l = rw (lt-ltb k 267 l) at (by_slots n k h (omega arith))

  pub between : 267 ≤ k → k < 826 → Unused ≡ source_of (mode_at n) k
  unfolding placed_source
  between l m = rw (le-ltb k 267 l, lt-ltb k 826 m) at (by_slots n k h (omega arith))

  pub in-upper : 826 ≤ k → k < 1093 → slot_source n (15 + (k - 826) / 19) ((k - 826) % 19) ≡ source_of (mode_at n) k
  unfolding placed_source
  in-upper l m = let a : 267 ≤ k = omega arith in rw (le-ltb k 267 a, le-ltb k 826 l) at (by_slots n k h m)

at_last : (mode : ℕ) → (mode ≡ 1 → ⊥) → (mode ≡ 2 → ⊥) → (mode ≡ 3 → ⊥) → (k : ℕ) → k < length mapped_modes → get_or mapped_modes k 0 ≡ mode → 11 ≡ mode
at_last mode a b d zero h is = absurd (a (sym is))
at_last mode a b d (suc zero) h is = absurd (b (sym is))
at_last mode a b d (suc (suc zero)) h is = absurd (d (sym is))
at_last mode a b d (suc (suc (suc zero))) h is = is
at_last mode a b d (suc (suc (suc (suc k)))) h is = absurd (omega arith)

-- a mode of the four that is none of the first three
pub last-mode : (mode : ℕ) → mapped mode ≡ true → (mode ≡ 1 → ⊥) → (mode ≡ 2 → ⊥) → (mode ≡ 3 → ⊥) → 11 ≡ mode
last-mode mode e a b d = let p = mapped-place mode e in at_last mode a b d p.at p.inside p.is
