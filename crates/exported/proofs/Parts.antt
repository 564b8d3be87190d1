-- The rows that are handed back: how long they are, and that their words tell the same part. Assumes nothing.
use Prim.Native.Nat.{ℕ, ◌+◌, ◌*◌, ◌^◌, ◌/◌, ◌%◌, ◌<◌, ◌≤◌}
use mathlib.Core.Path.{◌≡◌, refl, ap, ◌∙◌}
use mathlib.Core.Bool.{Bool, true, false, cond, ◌&&◌}
use mathlib.Core.List.{List, []}
use native.Mathlib.Omega.{arith}
use lib.Dec.{eqb, ltb}
use lib.ListN.{length, take, drop, length-take, length-drop}
use borrow.Author.Tests.{ltb-true, eqb-true, ne_eqb}
use Rattle.bits.proofs.Tests.{and-true}
use Rattle.runs.specs.Lengths.{pm_len}
use Rattle.rows.specs.Rows.{part_of, pm_row, px_row}
use Rattle.words.specs.Words.{chosen, part_at, row_word}
use Rattle.words.proofs.Fields.{start-lt}

-- a part of a matrix of 512 rows of n bytes: row `row` of it, or none
pub data Handed (n row : ℕ) (matrix : List ℕ) : List ℕ → Type 0 where
  whole : row < 512 → length (part_of n row matrix) ≡ n → Handed n row matrix (part_of n row matrix)
  empty : Handed n row matrix []

-- what the word of such a part needs, and what it tells
pub long : (n row : ℕ) (matrix part : List ℕ) → n < 256 → Handed n row matrix part → (length part < 256) × (0 < length part → row < 512)
long n row matrix part h (whole l e) = (omega (arith, e), λ z. l)
long n row matrix part h empty = (omega arith, λ z. absurd (omega arith))

told : (n row : ℕ) (matrix part : List ℕ) → 0 < n → n < 256 → Handed n row matrix part → part_at (row_word n row part) matrix ≡ part
unfolding row_word
told n row matrix part p h (whole l e) =
    let k : ℕ = length (part_of n row matrix) in
    let s = start-lt row n h l in
    let size : (row * n + 2 ^ 32 * k) / 2 ^ 32 ≡ n = omega (arith, e) in
    let start : (row * n + 2 ^ 32 * k) % 2 ^ 32 ≡ row * n = omega (arith, e) in
    ap (λ (t : Bool). part_at (cond t 0 (row * n + 2 ^ 32 * k)) matrix) (ne_eqb k 0 (λ z. omega (arith, e)))
    ∙ (λ i. take (size i) (drop (start i) matrix))
told n row matrix part p h empty = refl

pub tells : (n row : ℕ) (matrix part : List ℕ) (r : ℕ) → 0 < n → n < 256 → Handed n row matrix part → r ≡ row_word n row part
    → (r ≡ row_word n row part) × (part_at r matrix ≡ part)
tells n row matrix part r p h d e = (e, ap (λ (w : ℕ). part_at w matrix) e ∙ told n row matrix part p h d)

row-long : (n row : ℕ) (matrix : List ℕ) → row * n + n ≤ length matrix → length (part_of n row matrix) ≡ n
row-long n row matrix h = simp (length-take, length-drop) (omega arith)

-- of PM, and of PX1 and PX2
pub pm-handed : (row : ℕ) (pm : List ℕ) → Handed 90 row pm (pm_row row pm)
unfolding pm_row pm_len
pm-handed row pm = go (eqb (length pm) 46080 && ltb row 512) refl
  where
    go : (t : Bool) → (eqb (length pm) 46080 && ltb row 512) ≡ t → Handed 90 row pm (cond t (part_of 90 row pm) [])
    go true e =
        let (f, g) = and-true (eqb (length pm) 46080) (ltb row 512) e in
        let l = ltb-true row 512 g in
        whole l (row-long 90 row pm (omega (arith, eqb-true (length pm) 46080 f)))
    go false e = empty

module _ (channel row : ℕ) (px1 px2 : List ℕ) where
  abbrev Fits : Bool
  Fits = eqb (length px1) 9216 && eqb (length px2) 9216 && ltb row 512

  of-channel : (t u : Bool) → eqb channel 3 ≡ t → eqb channel 4 ≡ u → row < 512 → length px1 ≡ 9216 → length px2 ≡ 9216
      → Handed 18 row (cond u px2 px1) (cond t (part_of 18 row px1) (cond u (part_of 18 row px2) []))
  of-channel true true e f l h1 h2 = absurd (omega (arith, eqb-true channel 3 e, eqb-true channel 4 f))
  of-channel true false e f l h1 h2 = whole l (row-long 18 row px1 (omega arith))
  of-channel false true e f l h1 h2 = whole l (row-long 18 row px2 (omega arith))
  of-channel false false e f l h1 h2 = empty

  pub px-handed : Handed 18 row (chosen channel px1 px2) (px_row channel row px1 px2)
  unfolding px_row
  px-handed = go Fits refl
    where
      go : (t : Bool) → Fits ≡ t
          → Handed 18 row (chosen channel px1 px2) (cond t (cond (eqb channel 3) (part_of 18 row px1) (cond (eqb channel 4) (part_of 18 row px2) [])) [])
      go true e =
          let (f, g) = and-true (eqb (length px1) 9216 && eqb (length px2) 9216) (ltb row 512) e in
          let (f1, f2) = and-true (eqb (length px1) 9216) (eqb (length px2) 9216) f in
          of-channel (eqb channel 3) (eqb channel 4) refl refl (ltb-true row 512 g) (eqb-true (length px1) 9216 f1) (eqb-true (length px2) 9216 f2)
      go false e = empty
