-- What the locator of PM says, case by case. Assumes nothing.
use mathlib.Core.Path.{◌≡◌, refl, ap, ap₂, ◌∙◌}
use Prim.Native.Nat.{ℕ, ◌+◌, ◌*◌, ◌<◌, ◌≤◌}
use native.Mathlib.Decide.{dec_lt}
use native.Mathlib.Omega.{arith}
use borrow.Author.Tests.{eq-eqb, ne_eqb, lt-ltb, le-ltb}
use Rattle.std.specs.Prelude.{Ok, Err}
use Rattle.interleaving.specs.declared.Position.{Position}
use Rattle.interleaving.specs.Matrix.{cell_of}
use Rattle.interleaving.specs.PM.{p1_position, pids_position, p1_place, pids_place}
use Rattle.runs.specs.declared.Answer.TheVariants.{WrongLength}
use Rattle.queries.proofs.Valued.{ok-is}
use Rattle.locating.specs.declared.locator.Located.{Located}
use Rattle.locating.specs.Locator.{at_cell, standing, in_p1, in_pids, located}

module _ (frame bit : ℕ) where
  pub p1-frame-out : 1 ≤ frame → Err (WrongLength 1) ≡ in_p1 frame bit
  unfolding in_p1
  p1-frame-out h = rw (le-ltb frame 1 h)

  pub p1-bit-out : frame < 1 → 365440 ≤ bit → Err (WrongLength 2) ≡ in_p1 frame bit
  unfolding in_p1
  p1-bit-out l h = rw (lt-ltb frame 1 l, le-ltb bit 365440 h)

  pub p1-in : frame < 1 → bit < 365440 → Ok (standing (p1_position bit)) ≡ in_p1 frame bit
  unfolding in_p1
  p1-in l h = rw (lt-ltb frame 1 l, lt-ltb bit 365440 h)

  pub pids-frame-out : 16 ≤ frame → Err (WrongLength 1) ≡ in_pids frame bit
  unfolding in_pids
  pids-frame-out h = rw (le-ltb frame 16 h)

  pub pids-bit-out : frame < 16 → 200 ≤ bit → Err (WrongLength 2) ≡ in_pids frame bit
  unfolding in_pids
  pids-bit-out l h = rw (lt-ltb frame 16 l, le-ltb bit 200 h)

  pub pids-in : frame < 16 → bit < 200 → Ok (standing (pids_position (frame * 200 + bit))) ≡ in_pids frame bit
  unfolding in_pids
  pids-in l h = rw (lt-ltb frame 16 l, lt-ltb bit 200 h)

  -- the channel
  pub of-p1 : (channel : ℕ) → channel ≡ 1 → in_p1 frame bit ≡ located channel frame bit
  unfolding located
  of-p1 channel e = rw (eq-eqb channel 1 e)

  pub of-pids : (channel : ℕ) → (channel ≡ 1 → ⊥) → channel ≡ 2 → in_pids frame bit ≡ located channel frame bit
  unfolding located
  of-pids channel n e = rw (ne_eqb channel 1 n, eq-eqb channel 2 e)

  pub of_none : (channel : ℕ) → (channel ≡ 1 → ⊥) → (channel ≡ 2 → ⊥) → Err (WrongLength 0) ≡ located channel frame bit
  unfolding located
  of_none channel n m = rw (ne_eqb channel 1 n, ne_eqb channel 2 m)

-- ---- only a coded bit of the L1 frame is located

pub p1-range : (bit row column : ℕ) (p : Position) → located 1 0 bit ≡ Ok (at_cell p row column) → bit < 365440
p1-range bit row column p e =
    elim (dec_lt bit 365440) [
      | yes l ↦ l
      | no l ↦
          let r = p1-bit-out 0 bit (omega arith) (omega arith) ∙ of-p1 0 bit 1 refl in
          let z : ◌≡◌ {A = ℕ} 0 1 = cc in
          absurd (omega arith)
    ]

pub pids-range : (frame bit row column : ℕ) (p : Position) → located 2 frame bit ≡ Ok (at_cell p row column) → (frame < 16) × (bit < 200)
pids-range frame bit row column p e = go (dec_lt frame 16) (dec_lt bit 200)
  where
    go : Dec (frame < 16) → Dec (bit < 200) → (frame < 16) × (bit < 200)
    go (yes lf) (yes lb) = (lf, lb)
    go (no lf) lb =
        let r = pids-frame-out frame bit (omega arith) ∙ of-pids frame bit 2 (λ q. omega arith) refl in
        let z : ◌≡◌ {A = ℕ} 0 1 = cc in
        absurd (omega arith)
    go (yes lf) (no lb) =
        let r = pids-bit-out frame bit lf (omega arith) ∙ of-pids frame bit 2 (λ q. omega arith) refl in
        let z : ◌≡◌ {A = ℕ} 0 1 = cc in
        absurd (omega arith)

-- ---- and its cell is that of the row and the column

at-cell : (q p : Position) (row column : ℕ) → standing q ≡ at_cell p row column → cell_of 20 36 q ≡ row * 720 + column
unfolding standing cell_of
at-cell q p row column e =
    ap₂ (λ (y x : ℕ). y * 720 + x) (ap (λ (s : Located). s.row) e) (ap (λ (s : Located). s.column) e)

pub p1-cell : (bit row column : ℕ) (p : Position) → located 1 0 bit ≡ Ok (at_cell p row column) → p1_place bit ≡ row * 720 + column
p1-cell bit row column p e = at-cell _ p row column (ok-is (p1-in 0 bit (omega arith) (p1-range bit row column p e) ∙ of-p1 0 bit 1 refl ∙ e))

pub pids-cell : (frame bit row column : ℕ) (p : Position) → located 2 frame bit ≡ Ok (at_cell p row column) → pids_place (frame * 200 + bit) ≡ row * 720 + column
pids-cell frame bit row column p e =
    let (lf, lb) = pids-range frame bit row column p e in
    at-cell _ p row column (ok-is (pids-in frame bit lf lb ∙ of-pids frame bit 2 (λ q. omega arith) refl ∙ e))
