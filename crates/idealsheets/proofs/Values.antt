-- The bit that stands in the cell of an answer is the coded bit of the answer, whichever of the two was asked for. Assumes nothing.
use mathlib.Core.Path.{◌≡◌, refl, sym, ap, subst, ◌∙◌}
use mathlib.Core.Bool.{Bool, true, false, cond}
use mathlib.Core.List.{List}
use Prim.Native.Nat.{ℕ, ◌+◌, ◌-◌, ◌*◌, ◌%◌, ◌≤◌, ◌<◌, min}
use native.Mathlib.Omega.{arith}
use lib.Dec.{eqb, ltb}
use lib.ListN.{length}
use borrow.Author.Tests.{eqb-true}
use Rattle.std.specs.Prelude.{Result, Ok, Err}
use Rattle.bits.specs.Bits.{bit_at}
use Rattle.coding.specs.declared.Rate.TheVariants.{TwoFifths}
use Rattle.coding.specs.Channel.{channel}
use Rattle.runs.specs.declared.Answer.{Answer}
use Rattle.runs.specs.declared.Answer.TheVariants.{StateNotValid, WrongLength}
use Rattle.runs.specs.declared.Extended.{Extended}
use Rattle.runs.specs.declared.Extended.TheVariants.{P3, P4}
use Rattle.runs.specs.declared.Kind.{Kind}
use Rattle.runs.specs.declared.Kind.TheVariants.{Unused}
use Rattle.runs.specs.Chain.{coded_of}
use Rattle.runs.specs.Defined.{defined, memory_before}
use Rattle.runs.specs.Lengths.{kind_of}
use Rattle.runs.specs.Lent.{Frames, Matrices, frame_of, matrix_of}
use Rattle.runs.specs.Runs.{SenderRun, count, frame_at, matrices_at}
use Rattle.runs.specs.Starting.{state_at, valid}
use Rattle.runs.proofs.Older.{older-p4, older-px2}
use Rattle.runs.proofs.PX.{matrix-length}
use Rattle.runs.proofs.Sender.{matrices-at}
use Rattle.queries.specs.declared.finder.Found.{Found}
use Rattle.queries.specs.declared.finder.Found.TheVariants.{P1 as found-p1, Pids as found-pids}
use Rattle.queries.specs.declared.finder_px.FoundPx.{FoundPx}
use Rattle.queries.specs.declared.finder_px.FoundPx.TheVariants.{Coded, Fill as found-fill}
use Rattle.queries.specs.Finder.{found}
use Rattle.queries.specs.FinderPX.{cell_of, found_px, frame_coded, kind_of_number}
use Rattle.queries.specs.Sheets.{Sheet, channel_number}
use Rattle.queries.proofs.Sheets.{sheets}
use Rattle.locating.specs.declared.locator.Located.{Located}
use Rattle.locating.specs.declared.locator_px.LocatedPx.{LocatedPx}
use Rattle.locating.specs.Locator.{located}
use Rattle.locating.specs.LocatorPX.{at_cell as at_cell-px, located_px}
use Rattle.locating.specs.Sheets.{LocatedSheet}
use Rattle.locating.proofs.Sheets.{located-sheets}
use Rattle.sheetlines.specs.Entries.{bit_entry, entry_of, in_pm, pm_entry, pm_placed, px_entry, px_placed, turn_of}
use Rattle.std.specs.Prelude.{Option, Some, None}
use Rattle.sheetlines.specs.declared.questions.Question.{Question}
use Rattle.sheetlines.specs.declared.questions.Question.TheVariants.{Bit, Pm, Px}
use Rattle.sheetlines.specs.declared.entries.Entry.{Entry}
use Rattle.sheetlines.proofs.Ranges.{by-channel}
use Rattle.sheettext.specs.Texts.{value_in}
use Rattle.sheetinputs.specs.Inputs.{older}
use Rattle.idealsheets.specs.Ideal.{bit_of, coded_bit}
use Rattle.sheetinputs.proofs.Older.{older-cases, older-main}

p3-is : (mode : ℕ) → older mode ≡ true → kind_of mode P3 ≡ kind_of_number mode 3
unfolding kind_of kind_of_number
p3-is = older-cases (λ mode. kind_of mode P3 ≡ kind_of_number mode 3) refl refl refl refl

p4-is : (mode : ℕ) → older mode ≡ true → kind_of mode P4 ≡ kind_of_number mode 4
unfolding kind_of kind_of_number
p4-is = older-cases (λ mode. kind_of mode P4 ≡ kind_of_number mode 4) refl refl refl refl

pub number_is : (mode : ℕ) → older mode ≡ true → (e : Extended) → kind_of mode e ≡ kind_of_number mode (channel_number e)
number_is mode o P3 = p3-is mode o
number_is mode o P4 = p4-is mode o

-- a channel of another number is in no mode
no-channel : (mode channel : ℕ) → eqb channel 3 ≡ false → eqb channel 4 ≡ false → kind_of_number mode channel ≡ Unused
unfolding kind_of_number
no-channel mode channel e f = rw (e, f) (go (eqb mode 5))
  where
    go : (b : Bool) → cond b Unused Unused ≡ Unused
    go true = refl
    go false = refl

-- by the channel's number
pub by_number : (mode : ℕ) (P : ℕ → Type 0) → P 3 → P 4 → ((c : ℕ) → kind_of_number mode c ≡ Unused → P c) → (c : ℕ) → P c
by_number mode P p3 p4 other c = go (eqb c 3) (eqb c 4) refl refl
  where
    go : (x y : Bool) → eqb c 3 ≡ x → eqb c 4 ≡ y → P c
    go true y e f = subst P (sym (eqb-true _ _ e)) p3
    go false true e f = subst P (sym (eqb-true _ _ f)) p4
    go false false e f = other c (no-channel mode c e f)

-- PX2 is the matrices of P4
pub px2-is : (mode : ℕ) → older mode ≡ true → (a : SenderRun mode) (t : ℕ) → t < count mode a → matrix_of mode (matrices_at mode a t) P4 ≡ (matrices_at mode a t).px2
unfolding defined
px2-is mode o a t h =
    let X : Matrices = matrices_at mode a t in
    let m = matrices-at mode a t h in
    let px2-of : X.px2 ≡ _ = ap (λ (x : Matrices). x.px2) m ∙ older-px2 mode (older-main mode o) (t % 2) (memory_before mode (frame_at mode a) t) (frame_at mode a t) in
    older-p4 mode (older-main mode o) X (ap length px2-of ∙ matrix-length (kind_of mode P4) _ _ _)

-- L1 frame t of the run, among whose answers an entry of a sheet of n L1 frames stands
module _ (mode : ℕ) (o : older mode ≡ true) (a : SenderRun mode) (t : ℕ) (h : t < count mode a) (F : ℕ → Frames)
    (agree : (u : ℕ) → u ≤ t → frame_at mode a u ≡ F u) (n : ℕ) (below : t < n) where
  S : Sheet mode a t
  S = sheets mode (older-main mode o) a t h

  L : LocatedSheet mode a t
  L = located-sheets mode (older-main mode o) a t h

  abbrev X : Matrices
  X = matrices_at mode a t

  -- the value that stands in the cell is that of the coded bit
  abbrev Right : Option Entry → Type 0
  Right e = turn_of n e ≡ t → value_in X e ≡ coded_bit mode F e

  refused-right : Right None
  unfolding value_in coded_bit
  refused-right q = refl

  sent-here : (u : ℕ) → min n u ≡ t → u ≡ t
  sent-here u q = omega arith

  -- ---- PM: of the same L1 frame u

  p1-is : (u cell bit : ℕ) → u ≡ t → bit_at X.pm cell ≡ channel TwoFifths 146176 (bit_at (frame_at mode a t).p1) bit
      → bit_at X.pm cell ≡ channel TwoFifths 146176 (bit_at (F u).p1) bit
  p1-is u cell bit e v =
      v ∙ ap (λ (f : Frames). channel TwoFifths 146176 (bit_at f.p1) bit) (agree t (omega arith)) ∙ ap (λ (k : ℕ). channel TwoFifths 146176 (bit_at (F k).p1) bit) (sym e)

  pids-is : (u cell i : ℕ) → u ≡ t → bit_at X.pm cell ≡ channel TwoFifths 80 (bit_at (frame_at mode a t).pids) i
      → bit_at X.pm cell ≡ channel TwoFifths 80 (bit_at (F u).pids) i
  pids-is u cell i e v =
      v ∙ ap (λ (f : Frames). channel TwoFifths 80 (bit_at f.pids) i) (agree t (omega arith)) ∙ ap (λ (k : ℕ). channel TwoFifths 80 (bit_at (F k).pids) i) (sym e)

  pm-found : (u row column : ℕ) (f : Result Found Answer) → found row column ≡ f → Right (pm_entry u row column f)
  unfolding value_in coded_bit bit_of turn_of
  pm-found u row column (Ok (found-p1 bit)) e q = p1-is u (row * 720 + column) bit (sent-here u q) (S.p1-cell row column bit e)
  pm-found u row column (Ok (found-pids frame bit)) e q =
      pids-is u (row * 720 + column) (frame * 200 + bit) (sent-here u q) (S.pids-cell row column frame bit e)
  pm-found u row column (Err r) e q = refl

  pm-located : (u c frame bit : ℕ) (l : Result Located Answer) → located c frame bit ≡ l → Right (pm_placed u c frame bit l)
  unfolding value_in coded_bit bit_of turn_of
  pm-located u c frame bit (Ok cell) e q =
      by-channel (λ (k f : ℕ). value_in X (Some (in_pm u k f bit cell.row cell.column)) ≡ coded_bit mode F (Some (in_pm u k f bit cell.row cell.column))) bit cell.row cell.column cell.position
      (λ d. p1-is u (cell.row * 720 + cell.column) bit (sent-here u q) (L.p1-bit bit cell.row cell.column cell.position d))
      (λ f d. pids-is u (cell.row * 720 + cell.column) (f * 200 + bit) (sent-here u q) (L.pids-bit f bit cell.row cell.column cell.position d))
      c frame e
  pm-located u c frame bit (Err r) e q = refl

  -- ---- PX

  -- the cell of a bit of L1 frame `from`
  abbrev Cell : (e : Extended) (from frame bit pair row column : ℕ) → Type 0
  Cell e from frame bit pair row column =
      bit_at (matrix_of mode X e) (cell_of (kind_of_number mode (channel_number e)) pair row column)
      ≡ coded_of (kind_of mode e) (frame_of (F from) e) (frame * frame_coded (kind_of mode e) + bit)

  coded-found : (e : Extended) (u pair row column k frame bit : ℕ) → u ≡ t → found_px (state_at mode 0 u) (channel_number e) pair row column ≡ Ok (Coded k frame bit)
      → Cell e (u - k) frame bit pair row column
  coded-found e u pair row column k frame bit same f =
      let here = subst (λ (v : ℕ). found_px (state_at mode 0 v) (channel_number e) pair row column ≡ Ok (Coded k frame bit)) same f in
      ap (λ (k : Kind). bit_at (matrix_of mode X e) (cell_of k pair row column)) (sym (number_is mode o e))
      ∙ (S.coded-cell e 0 pair row column k frame bit (omega arith) here).1
      ∙ ap (λ (x : Frames). coded_of (kind_of mode e) (frame_of x e) (frame * frame_coded (kind_of mode e) + bit)) (agree (t - k) (omega arith))
      ∙ ap (λ (v : ℕ). coded_of (kind_of mode e) (frame_of (F (v - k)) e) (frame * frame_coded (kind_of mode e) + bit)) (sym same)

  coded-located : (e : Extended) (u frame bit later pair row column : ℕ) → u + later ≡ t
      → located_px (state_at mode 0 u) (channel_number e) frame bit ≡ Ok (at_cell-px later pair row column) → Cell e u frame bit pair row column
  coded-located e u frame bit later pair row column same f =
      ap (λ (k : Kind). bit_at (matrix_of mode X e) (cell_of k pair row column)) (sym (number_is mode o e))
      ∙ ap (λ (v : ℕ). bit_at (matrix_of mode (matrices_at mode a v) e) (cell_of (kind_of mode e) pair row column)) (sym same)
      ∙ (located-sheets mode (older-main mode o) a u (omega arith)).coded-bit e 0 frame bit later pair row column (omega arith) f (omega arith)
      ∙ ap (λ (x : Frames). coded_of (kind_of mode e) (frame_of x e) (frame * frame_coded (kind_of mode e) + bit)) (agree u (omega arith))

  -- in PX1, and in PX2
  px1-found : (u pair row column : ℕ) (f : Result FoundPx Answer) → found_px (state_at mode 0 u) 3 pair row column ≡ f → Right (px_entry mode 3 u pair row column f)
  unfolding value_in coded_bit bit_of turn_of
  px1-found u pair row column (Ok (Coded k frame bit)) e q = coded-found P3 u pair row column k frame bit (sent-here u q) e
  px1-found u pair row column (Ok found-fill) e q = refl
  px1-found u pair row column (Err r) e q = refl

  px2-found : (u pair row column : ℕ) (f : Result FoundPx Answer) → found_px (state_at mode 0 u) 4 pair row column ≡ f → Right (px_entry mode 4 u pair row column f)
  unfolding value_in coded_bit bit_of turn_of
  px2-found u pair row column (Ok (Coded k frame bit)) e q =
      ap (λ (b : List ℕ). bit_at b (cell_of (kind_of_number mode 4) pair row column)) (sym (px2-is mode o a t h)) ∙ coded-found P4 u pair row column k frame bit (sent-here u q) e
  px2-found u pair row column (Ok found-fill) e q = refl
  px2-found u pair row column (Err r) e q = refl

  px1-located : (u frame bit : ℕ) (l : Result LocatedPx Answer) → located_px (state_at mode 0 u) 3 frame bit ≡ l → Right (px_placed mode 3 u frame bit l)
  unfolding value_in coded_bit bit_of turn_of
  px1-located u frame bit (Ok cell) e q = coded-located P3 u frame bit cell.later cell.pair cell.row cell.column (sent-here (u + cell.later) q) e
  px1-located u frame bit (Err r) e q = refl

  px2-located : (u frame bit : ℕ) (l : Result LocatedPx Answer) → located_px (state_at mode 0 u) 4 frame bit ≡ l → Right (px_placed mode 4 u frame bit l)
  unfolding value_in coded_bit bit_of turn_of
  px2-located u frame bit (Ok cell) e q =
      ap (λ (b : List ℕ). bit_at b (cell_of (kind_of_number mode 4) cell.pair cell.row cell.column)) (sym (px2-is mode o a t h))
      ∙ coded-located P4 u frame bit cell.later cell.pair cell.row cell.column (sent-here (u + cell.later) q) e
  px2-located u frame bit (Err r) e q = refl

  -- any other channel is refused
  other-found : (c u pair row column : ℕ) → kind_of_number mode c ≡ Unused → Right (px_entry mode c u pair row column (found_px (state_at mode 0 u) c pair row column))
  unfolding found_px
  other-found c u pair row column e = rw e (go (valid (state_at mode 0 u)))
    where
      go : (b : Bool) → Right (px_entry mode c u pair row column (cond b (Err (WrongLength 0)) (Err StateNotValid)))
      go true = refused-right
      go false = refused-right

  other-located : (c u frame bit : ℕ) → kind_of_number mode c ≡ Unused → Right (px_placed mode c u frame bit (located_px (state_at mode 0 u) c frame bit))
  unfolding located_px
  other-located c u frame bit e = rw e (go (valid (state_at mode 0 u)))
    where
      go : (b : Bool) → Right (px_placed mode c u frame bit (cond b (Err (WrongLength 0)) (Err StateNotValid)))
      go true = refused-right
      go false = refused-right

  px-found : (u c pair row column : ℕ) → Right (px_entry mode c u pair row column (found_px (state_at mode 0 u) c pair row column))
  px-found u c pair row column =
      by_number mode (λ (k : ℕ). Right (px_entry mode k u pair row column (found_px (state_at mode 0 u) k pair row column)))
      (px1-found u pair row column (found_px (state_at mode 0 u) 3 pair row column) refl)
      (px2-found u pair row column (found_px (state_at mode 0 u) 4 pair row column) refl)
      (λ k e. other-found k u pair row column e) c

  px-located : (u c frame bit : ℕ) → Right (px_placed mode c u frame bit (located_px (state_at mode 0 u) c frame bit))
  px-located u c frame bit =
      by_number mode (λ (k : ℕ). Right (px_placed mode k u frame bit (located_px (state_at mode 0 u) k frame bit)))
      (px1-located u frame bit (located_px (state_at mode 0 u) 3 frame bit) refl)
      (px2-located u frame bit (located_px (state_at mode 0 u) 4 frame bit) refl)
      (λ k e. other-located k u frame bit e) c

  bit-right : (c u frame bit : ℕ) → Right (bit_entry mode c u frame bit)
  unfolding bit_entry
  bit-right c u frame bit = go (ltb c 3)
    where
      go : (b : Bool)
          → Right (cond b (pm_placed u c frame bit (located c frame bit)) (px_placed mode c u frame bit (located_px (state_at mode 0 u) c frame bit)))
      go true = pm-located u c frame bit (located c frame bit) refl
      go false = px-located u c frame bit

  if-sent : (b : Bool) (e : Option Entry) → Right e → Right (cond b e None)
  if-sent true e r = r
  if-sent false e r = refused-right

  pub asked-value : (q : Option Question) → Right (entry_of mode n q)
  unfolding entry_of
  asked-value (Some (Pm u row column)) = if-sent (ltb u n) (pm_entry u row column (found row column)) (pm-found u row column (found row column) refl)
  asked-value (Some (Px u c pair row column)) = if-sent (ltb u n) (px_entry mode c u pair row column (found_px (state_at mode 0 u) c pair row column)) (px-found u c pair row column)
  asked-value (Some (Bit u c frame bit)) = if-sent (ltb u n) (bit_entry mode c u frame bit) (bit-right c u frame bit)
  asked-value None = refused-right
