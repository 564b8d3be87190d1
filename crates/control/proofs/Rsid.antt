-- Table 11-3 column by column as the document prints it, and that the rule of `rsid` is the table: one computed test. Assumes nothing.
use mathlib.Core.Path.{◌≡◌}
use mathlib.Core.List.{List, [], ◌∷◌}
use mathlib.Core.Bool.{Bool, true, false, cond}
use Prim.Native.Nat.{ℕ, zero, suc, ◌%◌, ◌≤◌, ◌<◌}
use native.Mathlib.Omega.{arith}
use borrow.Author.Tests.{lt-ltb, le-ltb}
use lib.Dec.{ltb, eqb, eqb→eq}
use lib.ListN.{get_or}
use Rattle.bits.specs.Tests.{all}
use Rattle.bits.proofs.Tests.{all-at}
use Rattle.control.specs.Control.{rsid}

-- RSID 1:0 of the columns 0 to 60, sixteen to a line as the table has them
unfoldable pub table-11-3 : List ℕ
table-11-3 =
    0b10 ∷ 0b01 ∷ 0b00 ∷ 0b11 ∷ 0b10 ∷ 0b01 ∷ 0b00 ∷ 0b11 ∷ 0b10 ∷ 0b01 ∷ 0b00 ∷ 0b11 ∷ 0b10 ∷ 0b01 ∷ 0b00 ∷ 0b11
    ∷ 0b10 ∷ 0b01 ∷ 0b00 ∷ 0b11 ∷ 0b10 ∷ 0b01 ∷ 0b00 ∷ 0b11 ∷ 0b10 ∷ 0b01 ∷ 0b00 ∷ 0b11 ∷ 0b10 ∷ 0b01 ∷ 0b00 ∷ 0b01
    ∷ 0b10 ∷ 0b11 ∷ 0b00 ∷ 0b01 ∷ 0b10 ∷ 0b11 ∷ 0b00 ∷ 0b01 ∷ 0b10 ∷ 0b11 ∷ 0b00 ∷ 0b01 ∷ 0b10 ∷ 0b11 ∷ 0b00 ∷ 0b01
    ∷ 0b10 ∷ 0b11 ∷ 0b00 ∷ 0b01 ∷ 0b10 ∷ 0b11 ∷ 0b00 ∷ 0b01 ∷ 0b10 ∷ 0b11 ∷ 0b00 ∷ 0b01 ∷ 0b10 ∷ []

pub rsid-table : (column : ℕ) → column < 61 → rsid column ≡ get_or table-11-3 column 0
unfolding all rsid table-11-3
rsid-table column h = eqb→eq _ _ (all-at 61 (λ column. eqb (rsid column) (get_or table-11-3 column 0)) tt column h)

-- ---- the two rules, as the code reads them

pub to-30 : (column : ℕ) → column < 31 → get_or (0b10 ∷ 0b01 ∷ 0b00 ∷ 0b11 ∷ []) (column % 4) 0 ≡ rsid column
unfolding rsid
to-30 column h = rw (lt-ltb column 31 h)

pub from-31 : (column : ℕ) → 31 ≤ column → get_or (0b10 ∷ 0b11 ∷ 0b00 ∷ 0b01 ∷ []) (column % 4) 0 ≡ rsid column
unfolding rsid
from-31 column h = rw (le-ltb column 31 h)

-- ---- it has two bits

four-lt : (a b c d i : ℕ) → a < 4 → b < 4 → c < 4 → d < 4 → get_or (a ∷ b ∷ c ∷ d ∷ []) i 0 < 4
four-lt a b c d zero ha hb hc hd = ha
four-lt a b c d (suc zero) ha hb hc hd = hb
four-lt a b c d (suc (suc zero)) ha hb hc hd = hc
four-lt a b c d (suc (suc (suc zero))) ha hb hc hd = hd
four-lt a b c d (suc (suc (suc (suc i)))) ha hb hc hd = omega arith

pub rsid-lt : (column : ℕ) → rsid column < 4
unfolding rsid
rsid-lt column = go (ltb column 31)
  where
    go : (t : Bool) → cond t (get_or (2 ∷ 1 ∷ 0 ∷ 3 ∷ []) (column % 4) 0) (get_or (2 ∷ 3 ∷ 0 ∷ 1 ∷ []) (column % 4) 0) < 4
    go true = four-lt 2 1 0 3 (column % 4) (omega arith) (omega arith) (omega arith) (omega arith)
    go false = four-lt 2 3 0 1 (column % 4) (omega arith) (omega arith) (omega arith) (omega arith)
