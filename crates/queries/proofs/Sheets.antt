-- What the two finders say of a cell holds of every L1 frame of every sender's run in the modes to which they keep. Assumes nothing.
use mathlib.Core.Path.{◌≡◌, refl, sym, ap, subst, ◌∙◌}
use mathlib.Core.Logic.{inl, inr}
use mathlib.Core.Bool.{Bool, true, false, cond}
use Prim.Native.Nat.{ℕ, ◌+◌, ◌-◌, ◌*◌, ◌%◌, ◌≤◌, ◌<◌, min}
use native.Mathlib.Decide.{dec_lt, ℕ_discrete}
use native.Mathlib.Omega.{arith}
use lib.Dec.{eqb}
use Rattle.std.specs.Prelude.{Result, Ok, Err}
use Rattle.bits.specs.Bits.{bit_at}
use Rattle.coding.specs.declared.Rate.TheVariants.{TwoFifths}
use Rattle.coding.specs.Channel.{channel}
use Rattle.interleaving.specs.Matrix.{position_at}
use Rattle.interleaving.specs.PM.{p1_place}
use Rattle.interleaving.proofs.Matrix.{cell_at}
use Rattle.interleaving.specs.PX.{coded_bits}
use Rattle.interleaving.specs.FinderPX.{earlier}
use Rattle.runs.specs.declared.Answer.{Answer}
use Rattle.runs.specs.declared.Extended.{Extended}
use Rattle.runs.specs.declared.Extended.TheVariants.{P3, P4}
use Rattle.runs.specs.declared.Kind.{Kind}
use Rattle.runs.specs.declared.Main.{Main}
use Rattle.runs.specs.declared.Main.TheVariants.{Plain, Mp5, Mp6}
use Rattle.runs.specs.declared.State.{State}
use Rattle.runs.specs.MainChannels.{main_of, last_age, p1_bits}
use Rattle.runs.specs.Chain.{Buffer, bit_in, coded_of, p1_coded}
use Rattle.runs.specs.Lengths.{kind_of, table_row}
use Rattle.runs.specs.Lent.{frame_of, matrix_of}
use Rattle.runs.specs.Runs.{SenderRun, count, frame_at, matrices_at}
use Rattle.runs.specs.Starting.{state_at, valid}
use Rattle.runs.proofs.Sender.{covered_of}
use Rattle.runs.proofs.Shown.{p1-shown, pids-shown, coded-shown, fill-shown}
use Rattle.runs.proofs.States.{valid-at}
use Rattle.queries.specs.declared.finder.Found.TheVariants.{P1, Pids}
use Rattle.queries.specs.declared.finder_px.FoundPx.{FoundPx}
use Rattle.queries.specs.declared.finder_px.FoundPx.TheVariants.{Coded, Fill}
use Rattle.queries.specs.Finder.{found}
use Rattle.queries.specs.FinderPX.{kind_of_number, columns_of, cell_of, frame_coded, told, found_px}
use Rattle.queries.specs.Sheets.{Sheet, channel_number}
use Rattle.queries.proofs.CasesPX as px
use Rattle.queries.proofs.Origins.{used, cell-lt}
use Rattle.queries.proofs.Placing.{found_inside}
use Rattle.queries.proofs.Valued.{ok-is}
use Rattle.queries.proofs.Stands.{found-stands}

-- ---- PM

-- a position's bit stands in the cell of its row and its column
at_position : (pm : Buffer) (row column : ℕ) → bit_in pm (position_at 36 row column) ≡ bit_at pm (row * 720 + column)
at_position pm row column = ap (bit_at pm) (cell_at 20 36 row column)

module _ (mode : ℕ) (is : main_of mode ≡ Plain) (a : SenderRun mode) (t : ℕ) (h : t < count mode a) (row column : ℕ) where
  p1-older : (i : ℕ) → i < 365440 → bit_at (matrices_at mode a t).pm (p1_place i) ≡ channel TwoFifths 146176 (bit_at (frame_at mode a t).p1) i
  p1-older i l =
      p1-shown mode a t h i (subst (λ (k : Main). i < p1_coded k) (sym is) l) ∙ ap (λ (k : Main). channel TwoFifths (p1_bits k) (bit_at (frame_at mode a t).p1) i) is

  p1-in : (bit : ℕ) → found row column ≡ Ok (P1 bit)
      → bit_at (matrices_at mode a t).pm (row * 720 + column) ≡ channel TwoFifths 146176 (bit_at (frame_at mode a t).p1) bit
  p1-in bit e =
      let (lr, lc) = found_inside row column (λ r n. let z : ◌≡◌ {A = ℕ} 0 1 = cc in omega arith) in
      elim (found-stands row column lr lc) [
        | inl (i, x) ↦
            let named = x.named in
            let same : i ≡ bit = cc in
            rw (← x.stands, ← same) (p1-older i x.inside)
        | inr (frame, i, x) ↦
            let named = x.named in
            let z : ◌≡◌ {A = ℕ} 0 1 = cc in
            absurd (omega arith)
      ]

  pids-in : (frame bit : ℕ) → found row column ≡ Ok (Pids frame bit)
      → bit_at (matrices_at mode a t).pm (row * 720 + column) ≡ channel TwoFifths 80 (bit_at (frame_at mode a t).pids) (frame * 200 + bit)
  pids-in frame bit e =
      let (lr, lc) = found_inside row column (λ r n. let z : ◌≡◌ {A = ℕ} 0 1 = cc in omega arith) in
      elim (found-stands row column lr lc) [
        | inl (i, x) ↦
            let named = x.named in
            let z : ◌≡◌ {A = ℕ} 0 1 = cc in
            absurd (omega arith)
        | inr (f, i, x) ↦
            let named = x.named in
            let same-frame : f ≡ frame = cc in
            let same : i ≡ bit = cc in
            rw (← x.stands, ← same-frame, ← same) (pids-shown mode a t h (f * 200 + i) (omega (arith, x.inside.0, x.inside.1)))
      ]

-- ---- PX1 and PX2

not_five : (mode : ℕ) → main_of mode ≡ Plain → eqb mode 5 ≡ false
unfolding main_of
not_five mode = go (eqb mode 5) (eqb mode 6)
  where
    go : (b c : Bool) → cond b Mp5 (cond c Mp6 Plain) ≡ Plain → b ≡ false
    go true c e = cc
    go false c e = refl

pub number_is : (mode : ℕ) → main_of mode ≡ Plain → (e : Extended) → kind_of mode e ≡ kind_of_number mode (channel_number e)
unfolding kind_of_number
number_is mode is P3 = rw (not_five mode is)
number_is mode is P4 = rw (not_five mode is)

-- a cell that the finder does not refuse
record Inside (s : State) (k : Kind) (channel pair row column : ℕ) : Type 0 where
  sends : table_row k < 2
  cell : cell_of k pair row column < coded_bits (table_row k)
  says : Ok (told k s.half s.age (cell_of k pair row column)) ≡ found_px s channel pair row column

module _ (s : State) (v : valid s ≡ true) (channel : ℕ) (k : Kind) (k-is : k ≡ kind_of_number s.mode channel) (pair row column : ℕ) where
  inside : ((r : Answer) → found_px s channel pair row column ≡ Err r → ⊥) → Inside s k channel pair row column
  inside accepted = go (ℕ_discrete (columns_of k) 0) (dec_lt pair 8) (dec_lt row 64) (dec_lt column (columns_of k))
    where
      go : Dec (columns_of k ≡ 0) → Dec (pair < 8) → Dec (row < 64) → Dec (column < columns_of k) → Inside s k channel pair row column
      go (yes z) lp lr lc = absurd (accepted _ (sym (px.channel-refused s channel pair row column v k k-is _ refl z)))
      go (no n) (no lp) lr lc = absurd (accepted _ (sym (px.pair-refused s channel pair row column v k k-is _ refl n (omega arith))))
      go (no n) (yes lp) (no lr) lc = absurd (accepted _ (sym (px.row-refused s channel pair row column v k k-is _ refl n lp (omega arith))))
      go (no n) (yes lp) (yes lr) (no lc) =
          absurd (accepted _ (sym (px.column-refused s channel pair row column v k k-is _ refl n lp lr (omega arith))))
      go (no n) (yes lp) (yes lr) (yes lc) =
          record {
            sends = used k n;
            cell = cell-lt k _ (pair * 64 + row) column refl (omega arith) lc;
            says = px.inside s channel pair row column v k k-is _ refl n lp lr lc;
          }

module _ (mode : ℕ) (is : main_of mode ≡ Plain) (a : SenderRun mode) (t : ℕ) (h : t < count mode a) (e : Extended) (z pair row column : ℕ) (lz : z < 8) where
  abbrev named : Result FoundPx Answer
  named = found_px (state_at mode z t) (channel_number e) pair row column

  at : ((r : Answer) → named ≡ Err r → ⊥) → Inside (state_at mode z t) (kind_of mode e) (channel_number e) pair row column
  at = inside (state_at mode z t) (valid-at mode (covered_of mode a) z lz t) (channel_number e) (kind_of mode e) (number_is mode is e) pair row column

  coded_in : (n frame bit : ℕ) → named ≡ Ok (Coded n frame bit)
      → (n ≤ t)
      × (bit_at (matrix_of mode (matrices_at mode a t) e) (cell_of (kind_of mode e) pair row column)
      ≡ coded_of (kind_of mode e) (frame_of (frame_at mode a (t - n)) e) (frame * frame_coded (kind_of mode e) + bit))
  coded_in n frame bit f =
      let x = at (λ r q. let z : ◌≡◌ {A = ℕ} 0 1 = cc in omega arith) in
      let (en, le, ej) = px.coded-means (kind_of mode e) (t % 2) (min (last_age (main_of mode)) t) (cell_of (kind_of mode e) pair row column) n frame bit (ok-is (x.says ∙ f)) in
      (omega arith, rw (en, ej) (coded-shown mode a t h e x.sends (cell_of (kind_of mode e) pair row column) x.cell (omega arith)))

  fill-in : named ≡ Ok Fill → bit_at (matrix_of mode (matrices_at mode a t) e) (cell_of (kind_of mode e) pair row column) ≡ 0
  fill-in f =
      let x = at (λ r q. let z : ◌≡◌ {A = ℕ} 0 1 = cc in omega arith) in
      fill-shown mode a t h e x.sends (cell_of (kind_of mode e) pair row column) x.cell
      (subst (λ (k : Main). min (last_age k) t < earlier (table_row (kind_of mode e)) (t % 2) (cell_of (kind_of mode e) pair row column)) is
      (px.fill-means (kind_of mode e) (t % 2) (min (last_age (main_of mode)) t) (cell_of (kind_of mode e) pair row column) (ok-is (x.says ∙ f))))

-- ---- the theorem

pub sheets : (mode : ℕ) → main_of mode ≡ Plain → (a : SenderRun mode) (t : ℕ) → t < count mode a → Sheet mode a t
sheets mode is a t h =
    record {
      p1-position = λ row column bit e. at_position (matrices_at mode a t).pm row column ∙ p1-in mode is a t h row column bit e;
      pids-position = λ row column frame bit e. at_position (matrices_at mode a t).pm row column ∙ pids-in mode is a t h row column frame bit e;
      p1-cell = p1-in mode is a t h;
      pids-cell = pids-in mode is a t h;
      coded-cell = λ e z pair row column n frame bit lz. coded_in mode is a t h e z pair row column lz n frame bit;
      fill-cell = λ e z pair row column lz. fill-in mode is a t h e z pair row column lz;
    }
