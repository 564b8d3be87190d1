-- The buffers of the signal that the code lends, in every mode. Assumes nothing.
use mathlib.Core.Path.{◌≡◌, refl}
use mathlib.Core.Bool.{Bool, true, false, cond}
use mathlib.Core.List.{List}
use Prim.Native.Nat.{ℕ, ◌+◌, ◌≤◌}
use native.Mathlib.Omega.{arith}
use lib.Dec.{eqb}
use lib.ListN.{get_or, length, length-replicate, take, replicate}
use lib.Seq.{length-take-le}
use borrow.Author.Tests.{eqb-true}
use Rattle.runs.specs.declared.Extended.TheVariants.{P3, P4}
use Rattle.runs.specs.declared.Kind.TheVariants.{Unused, Wide}
use Rattle.runs.specs.declared.Main.TheVariants.{Plain, Mp5, Mp6}
use Rattle.runs.specs.MainChannels.{main_of, p1'_len}
use Rattle.runs.specs.Lengths.{kind_of, matrix_len, px2_len, pm_len, control_len, sender_len}
use Rattle.runs.proofs.Bounds.{matrix-le}
use Rattle.calls.specs.Called.{signal}
use Rattle.modes.specs.Sizes.{wanted}
use Rattle.layout.proofs.Cut.{entry-is}
use Rattle.layout.proofs.Zeros.{zeros_of}
use Rattle.sheetinputs.specs.Run.{blank}

-- PX2 has the matrices of P4 or of P1': no mode has both
px2-le : (mode : ℕ) → px2_len mode ≤ 18432
unfolding main_of kind_of
px2-le mode = go (eqb mode 5) (eqb mode 6) (eqb mode 11) refl refl
  where
    go : (x y z : Bool) → eqb mode 6 ≡ y → eqb mode 11 ≡ z → matrix_len (cond z Wide Unused) + p1'_len (cond x Mp5 (cond y Mp6 Plain)) ≤ 18432
    go true y true f g = omega arith
    go true y false f g = omega arith
    go false true true f g = let a : mode ≡ 6 = eqb-true _ _ f in let b : mode ≡ 11 = eqb-true _ _ g in absurd (omega arith)
    go false true false f g = omega arith
    go false false true f g = omega arith
    go false false false f g = omega arith

module _ (mode : ℕ) (want : List ℕ) (lengths : want ≡ wanted mode (sender_len (kind_of mode P3)) (sender_len (kind_of mode P4))) where
  pub room-px1 : get_or want 6 0 ≤ 9216
  room-px1 = let e : get_or want 6 0 ≡ matrix_len (kind_of mode P3) = entry-is mode _ _ want lengths 6 in omega (arith, matrix-le (kind_of mode P3))

  pub room-px2 : get_or want 7 0 ≤ 18432
  room-px2 = let e : get_or want 7 0 ≡ px2_len mode = entry-is mode _ _ want lengths 7 in omega (arith, px2-le mode)

  pub blank-is : signal (replicate 46080 0) (take (get_or want 6 0) (replicate 9216 0)) (take (get_or want 7 0) (replicate 18432 0)) (replicate 4096 0) ≡ blank mode
  unfolding blank pm_len control_len
  blank-is =
      let q1 = zeros_of (get_or want 6 0) 9216 (matrix_len (kind_of mode P3)) (entry-is mode _ _ want lengths 6) room-px1 in
      let q2 = zeros_of (get_or want 7 0) 18432 (px2_len mode) (entry-is mode _ _ want lengths 7) room-px2 in
      λ i. signal (replicate 46080 0) (q1 i) (q2 i) (replicate 4096 0)

  -- and what is written has room
  pub rooms-fit : (n : ℕ) → 77824 ≤ n
      → (251 ≤ n)
      × (length {A = ℕ} (replicate 46080 0) + length (take (get_or want 6 0) (replicate {A = ℕ} 9216 0))
      + length (take (get_or want 7 0) (replicate {A = ℕ} 18432 0)) + length {A = ℕ} (replicate 4096 0) ≤ n)
  rooms-fit n h = (
    omega arith,
    omega (
      arith,
      room-px1,
      room-px2,
      length-replicate {A = ℕ} 46080 0,
      length-replicate {A = ℕ} 4096 0,
      length-take-le (get_or want 6 0) (replicate {A = ℕ} 9216 0) (omega (arith, room-px1, length-replicate {A = ℕ} 9216 0)),
      length-take-le (get_or want 7 0) (replicate {A = ℕ} 18432 0) (omega (arith, room-px2, length-replicate {A = ℕ} 18432 0)),
    ),
  )
