-- MP1, MP2, MP3 and MP11, and the buffers that the code lends in them. Assumes nothing.
use mathlib.Core.Path.{◌≡◌, refl, sym, ap, subst, ◌∙◌}
use mathlib.Core.Bool.{Bool, true, false, not, ◌||◌}
use mathlib.Core.List.{List, []}
use Prim.Native.Nat.{ℕ, ◌+◌, ◌≤◌}
use native.Mathlib.Omega.{arith}
use lib.Dec.{eqb}
use lib.ListN.{get_or, take, replicate}
use borrow.Author.Tests.{eqb-true}
use Rattle.control.specs.Modes.{covered, modes, one_of}
use Rattle.runs.specs.declared.Extended.{Extended}
use Rattle.runs.specs.declared.Extended.TheVariants.{P3, P4}
use Rattle.runs.specs.declared.Kind.{Kind}
use Rattle.runs.specs.declared.Kind.TheVariants.{Unused, Narrow, Wide}
use Rattle.runs.specs.declared.Main.{Main}
use Rattle.runs.specs.declared.Main.TheVariants.{Plain, Mp5, Mp6}
use Rattle.runs.specs.MainChannels.{main_of, p1_len, p2_len, delay_len}
use Rattle.runs.specs.Lengths.{frame_len, kind_of, matrix_len, pids_len, px2_len, pm_len, control_len, sender_len}
use Rattle.runs.specs.Starting.{zeros}
use Rattle.runs.proofs.Bounds.{frame-le, matrix-le}
use Rattle.calls.specs.Called.{memory, signal}
use Rattle.modes.specs.Sizes.{wanted}
use Rattle.layout.proofs.Cut.{entry-is}
use Rattle.layout.proofs.Zeros.{zeros_of}
use Rattle.arguments.specs.Arguments.{carried_of, misnamed}
use Rattle.sheetinputs.specs.Inputs.{carried, frame_size, named, older}
use Rattle.sheetinputs.specs.Run.{blank}

pub older-cases : (P : ℕ → Type 0) → P 1 → P 2 → P 3 → P 11 → (mode : ℕ) → older mode ≡ true → P mode
unfolding older
older-cases P a b c d mode = go (eqb mode 1) (eqb mode 2) (eqb mode 3) refl refl refl
  where
    go : (x y z : Bool) → eqb mode 1 ≡ x → eqb mode 2 ≡ y → eqb mode 3 ≡ z → (x || (y || (z || eqb mode 11))) ≡ true → P mode
    go true y z e f g h = subst P (sym (eqb-true _ _ e)) a
    go false true z e f g h = subst P (sym (eqb-true _ _ f)) b
    go false false true e f g h = subst P (sym (eqb-true _ _ g)) c
    go false false false e f g h = subst P (sym (eqb-true _ _ h)) d

pub older-main : (mode : ℕ) → older mode ≡ true → main_of mode ≡ Plain
unfolding main_of
older-main = older-cases (λ mode. main_of mode ≡ Plain) refl refl refl refl

pub older-covered : (mode : ℕ) → older mode ≡ true → covered mode ≡ true
unfolding covered modes one_of
older-covered = older-cases (λ mode. covered mode ≡ true) refl refl refl refl

px2-small : (mode : ℕ) → older mode ≡ true → px2_len mode ≤ 9216
unfolding main_of kind_of
px2-small = older-cases (λ mode. px2_len mode ≤ 9216) (omega arith) (omega arith) (omega arith) (omega arith)

memory-small : (k : Kind) → sender_len k ≤ 18432
memory-small Unused = omega arith
memory-small Narrow = omega arith
memory-small Wide = omega arith

module _ (mode : ℕ) (want : List ℕ) (lengths : want ≡ wanted mode (sender_len (kind_of mode P3)) (sender_len (kind_of mode P4))) where
  pub room-px1 : get_or want 6 0 ≤ 9216
  room-px1 = let e : get_or want 6 0 ≡ matrix_len (kind_of mode P3) = entry-is mode _ _ want lengths 6 in omega (arith, matrix-le (kind_of mode P3))

  pub room-px2 : older mode ≡ true → get_or want 7 0 ≤ 9216
  room-px2 o = let e : get_or want 7 0 ≡ px2_len mode = entry-is mode _ _ want lengths 7 in omega (arith, px2-small mode o)

  pub room-memory3 : get_or want 9 0 ≤ 18432
  room-memory3 = let e : get_or want 9 0 ≡ sender_len (kind_of mode P3) = entry-is mode _ _ want lengths 9 in omega (arith, memory-small (kind_of mode P3))

  pub room-memory4 : get_or want 10 0 ≤ 18432
  room-memory4 = let e : get_or want 10 0 ≡ sender_len (kind_of mode P4) = entry-is mode _ _ want lengths 10 in omega (arith, memory-small (kind_of mode P4))

  -- the matrices that are lent to the sender
  pub blank-is : older mode ≡ true
      → signal (replicate 46080 0) (take (get_or want 6 0) (replicate 9216 0)) (take (get_or want 7 0) (replicate 9216 0)) (replicate control_len 0) ≡ blank mode
  unfolding blank pm_len
  blank-is o =
      let q1 = zeros_of (get_or want 6 0) 9216 (matrix_len (kind_of mode P3)) (entry-is mode _ _ want lengths 6) room-px1 in
      let q2 = zeros_of (get_or want 7 0) 9216 (px2_len mode) (entry-is mode _ _ want lengths 7) (room-px2 o) in
      λ i. signal (replicate 46080 0) (q1 i) (q2 i) (replicate control_len 0)

  -- and its memory
  pub memory-clear : older mode ≡ true → memory (take (get_or want 9 0) (replicate 18432 0)) (take (get_or want 10 0) (replicate 18432 0)) [] ≡ zeros sender_len mode
  memory-clear o =
      let q3 = zeros_of (get_or want 9 0) 18432 (sender_len (kind_of mode P3)) (entry-is mode _ _ want lengths 9) room-memory3 in
      let q4 = zeros_of (get_or want 10 0) 18432 (sender_len (kind_of mode P4)) (entry-is mode _ _ want lengths 10) room-memory4 in
      let qd = none-delayed o in
      λ i. memory (q3 i) (q4 i) (qd i)
    where
      none-delayed : older mode ≡ true → [] ≡ replicate {A = ℕ} (delay_len (main_of mode)) 0
      none-delayed o = sym (ap (λ k. replicate {A = ℕ} (delay_len k) 0) (older-main mode o))

module _ (mode : ℕ) (without3 without4 : Bool) (want : List ℕ) (lengths : want ≡ wanted mode (sender_len (kind_of mode P3)) (sender_len (kind_of mode P4))) where
  -- the channels without data
  pub named-first : (b : Bool) → b ≡ misnamed (get_or want 3 0) without3 → b ≡ true → false ≡ named mode without3 without4
  unfolding named
  named-first b e f =
      let m : misnamed (frame_len (kind_of mode P3)) without3 ≡ true = ap (λ (k : ℕ). misnamed k without3) (sym (entry-is mode _ _ want lengths 3)) ∙ sym e ∙ f in
      sym (rw m)

  pub named-second : (b : Bool) → b ≡ misnamed (get_or want 3 0) without3 → b ≡ false → (c : Bool) → c ≡ misnamed (get_or want 4 0) without4
      → not c ≡ named mode without3 without4
  unfolding named
  named-second b e f c g =
      let m : misnamed (frame_len (kind_of mode P3)) without3 ≡ false = ap (λ (k : ℕ). misnamed k without3) (sym (entry-is mode _ _ want lengths 3)) ∙ sym e ∙ f in
      ap not (g ∙ ap (λ (k : ℕ). misnamed k without4) (entry-is mode _ _ want lengths 4)) ∙ sym (rw m)

-- the bytes of P3 and P4
module _ (mode : ℕ) (want : List ℕ) (lengths : want ≡ wanted mode (sender_len (kind_of mode P3)) (sender_len (kind_of mode P4))) (without : Bool) (n : ℕ) where
  pub carried-p3 : n ≡ carried_of (get_or want 3 0) without → n ≡ carried mode P3 without
  carried-p3 e = e ∙ ap (λ (k : ℕ). carried_of k without) (entry-is mode _ _ want lengths 3)

  pub carried-p4 : n ≡ carried_of (get_or want 4 0) without → n ≡ carried mode P4 without
  carried-p4 e = e ∙ ap (λ (k : ℕ). carried_of k without) (entry-is mode _ _ want lengths 4)

pub carried-small : (mode : ℕ) (e : Extended) (without : Bool) (n : ℕ) → n ≡ carried mode e without → n ≤ 4608
unfolding carried_of
carried-small mode e true n q = omega arith
carried-small mode e false n q = omega (arith, frame-le (kind_of mode e))

-- the bytes of P1, PIDS and P2
pub main-sizes : (mode : ℕ) → p1_len (main_of mode) + pids_len + p2_len (main_of mode) ≤ 32768
unfolding pids_len
main-sizes mode = go (main_of mode)
  where
    go : (k : Main) → p1_len k + 160 + p2_len k ≤ 32768
    go Plain = omega arith
    go Mp5 = omega arith
    go Mp6 = omega arith

module _ (mode n3 n4 : ℕ) (want : List ℕ) (lengths : want ≡ wanted mode (sender_len (kind_of mode P3)) (sender_len (kind_of mode P4))) where
  is : (k : ℕ) → get_or want k 0 ≡ get_or (wanted mode (sender_len (kind_of mode P3)) (sender_len (kind_of mode P4))) k 0
  is = entry-is mode _ _ want lengths

  pub size_is : 1 + get_or want 0 0 + get_or want 1 0 + get_or want 2 0 + n3 + n4 ≡ frame_size mode n3 n4
  unfolding frame_size
  size_is =
      let a : get_or want 0 0 ≡ p1_len (main_of mode) = is 0 in
      let b : get_or want 1 0 ≡ pids_len = is 1 in
      let c : get_or want 2 0 ≡ p2_len (main_of mode) = is 2 in
      omega arith

pub sizes-small : (mode : ℕ) (want : List ℕ) → want ≡ wanted mode (sender_len (kind_of mode P3)) (sender_len (kind_of mode P4))
    → get_or want 0 0 + get_or want 1 0 + get_or want 2 0 ≤ 32768
sizes-small mode want lengths =
    let a : get_or want 0 0 ≡ p1_len (main_of mode) = entry-is mode _ _ want lengths 0 in
    let b : get_or want 1 0 ≡ pids_len = entry-is mode _ _ want lengths 1 in
    let c : get_or want 2 0 ≡ p2_len (main_of mode) = entry-is mode _ _ want lengths 2 in
    omega (arith, main-sizes mode)
