-- The working below an answer comes to its value: the sum modulo 2 is the bit that the answer gives. Assumes nothing.
use mathlib.Core.Path.{◌≡◌, refl, sym, ap, subst, ◌∙◌}
use mathlib.Core.Bool.{Bool, true, false, cond}
use mathlib.Core.List.{List, [], ◌∷◌}
use Prim.Native.Nat.{ℕ, ◌+◌, ◌-◌, ◌*◌, ◌/◌, ◌≤◌, ◌<◌}
use native.Mathlib.Omega.{arith}
use lib.Dec.{ltb}
use lib.ListN.{length-replicate, replicate}
use Rattle.std.specs.Prelude.{Result, Ok, Err}
use Rattle.bits.specs.Bits.{bit_at}
use Rattle.interleaving.specs.Matrix.{position_at}
use Rattle.interleaving.specs.declared.Position.{Position}
use Rattle.runs.specs.declared.Answer.{Answer}
use Rattle.runs.specs.declared.Answer.TheVariants.{StateNotValid, WrongLength}
use Rattle.runs.specs.declared.Extended.{Extended}
use Rattle.runs.specs.declared.Extended.TheVariants.{P3, P4}
use Rattle.runs.specs.declared.Kind.{Kind}
use Rattle.runs.specs.declared.Kind.TheVariants.{Unused, Narrow, Wide}
use Rattle.runs.specs.declared.State.{State}
use Rattle.runs.specs.Lengths.{frame_bits, frame_len, kind_of}
use Rattle.runs.specs.Lent.{Frames, Matrices, filled, frame_of, matrix_of, or_zeros}
use Rattle.runs.specs.Runs.{SenderRun, count, frame_at, matrices_at}
use Rattle.runs.specs.Starting.{state_at, valid}
use Rattle.runs.proofs.Filled.{or-zeros-right}
use Rattle.queries.specs.declared.finder.Found.{Found}
use Rattle.queries.specs.declared.finder.Found.TheVariants.{P1 as found-p1, Pids as found-pids}
use Rattle.queries.specs.declared.finder_px.FoundPx.{FoundPx}
use Rattle.queries.specs.declared.finder_px.FoundPx.TheVariants.{Coded, Fill as found-fill}
use Rattle.queries.specs.Finder.{found}
use Rattle.queries.specs.FinderPX.{cell_of, found_px, kind_of_number}
use Rattle.queries.specs.Sheets.{channel_number}
use Rattle.locating.specs.declared.locator.Located.{Located}
use Rattle.locating.specs.declared.locator_px.LocatedPx.{LocatedPx}
use Rattle.locating.specs.BothWays.{located_again}
use Rattle.locating.specs.Locator.{at_cell, located}
use Rattle.locating.specs.LocatorPX.{at_cell as at_cell-px, located_px}
use Rattle.locating.proofs.AgainPM.{both_ways}
use Rattle.locating.proofs.AgainPX.{both-ways-px}
use Rattle.sheetlines.specs.Entries.{bit_entry, entry_of, in_pm, pm_entry, pm_placed, px_entry, px_placed}
use Rattle.std.specs.Prelude.{Option, Some, None}
use Rattle.sheetlines.specs.declared.questions.Question.{Question}
use Rattle.sheetlines.specs.declared.questions.Question.TheVariants.{Bit, Pm, Px}
use Rattle.sheetlines.specs.declared.entries.CodedBit.{CodedBit}
use Rattle.sheetlines.specs.declared.entries.Entry.{Entry}
use Rattle.sheetlines.specs.declared.entries.Entry.TheVariants.{Stands, Fill}
use Rattle.sheetlines.proofs.Ranges.{by-channel, p1-in-range, pids-in-range}
use Rattle.sheettext.specs.Texts.{value_in}
use Rattle.sheetinputs.specs.Inputs.{older}
use Rattle.sheetinputs.proofs.Older.{older-covered, older-main}
use Rattle.sheetworks.specs.Works.{channel_in}
use Rattle.workings.specs.declared.Worked.{Worked}
use Rattle.workings.specs.Sheets.{ComesTo}
use Rattle.workings.specs.Shown.{bits_of, frames_of, meant, worked, worked_of}
use Rattle.workings.proofs.Explained.{explained}
use Rattle.workings.proofs.Sheets.{worked-sheets}
use Rattle.idealsheets.specs.Ideal.{SumsTo}
use Rattle.idealsheets.proofs.Values.{by_number, number_is, px2-is}

sums-to : (bit cell : ℕ) (s : State) (number : ℕ) (frames : List ℕ) (frame m : ℕ) → ComesTo bit cell (worked s number frames frame m) → SumsTo bit (worked s number frames frame m)
sums-to bit cell s number frames frame m c = (c.success, sym (explained s number frames frame m c.success).is_sum ∙ c.comes-to)

-- ---- nothing lent for P3 or P4

or-zeros-twice : (n : ℕ) (b : List ℕ) → or_zeros n (or_zeros n b) ≡ or_zeros n b
or-zeros-twice n [] = or-zeros-right n (replicate n 0) (length-replicate {A = ℕ} n 0)
or-zeros-twice n (x ∷ b) = refl

bytes-are : (k : Kind) → frame_len k ≡ 8 * frame_bits k / 8
bytes-are Unused = refl
bytes-are Narrow = refl
bytes-are Wide = refl

meant-filled : (mode : ℕ) → older mode ≡ true → (e : Extended) (b : List ℕ)
    → meant mode (channel_number e) (or_zeros (frame_len (kind_of mode e)) b) ≡ meant mode (channel_number e) b
unfolding meant frames_of bits_of
meant-filled mode o P3 b =
    let q : frame_len (kind_of mode P3) ≡ 8 * frame_bits (kind_of_number mode 3) / 8 = bytes-are (kind_of mode P3) ∙ ap (λ (k : Kind). 8 * frame_bits k / 8) (number_is mode o P3) in
    ap (λ (n : ℕ). or_zeros (8 * frame_bits (kind_of_number mode 3) / 8) (or_zeros n b)) q ∙ or-zeros-twice (8 * frame_bits (kind_of_number mode 3) / 8) b
meant-filled mode o P4 b =
    let q : frame_len (kind_of mode P4) ≡ 8 * frame_bits (kind_of_number mode 4) / 8 = bytes-are (kind_of mode P4) ∙ ap (λ (k : Kind). 8 * frame_bits k / 8) (number_is mode o P4) in
    ap (λ (n : ℕ). or_zeros (8 * frame_bits (kind_of_number mode 4) / 8) (or_zeros n b)) q ∙ or-zeros-twice (8 * frame_bits (kind_of_number mode 4) / 8) b

-- ---- L1 frame t of the run, whose transfer frames are these where nothing means zeros
module _ (mode : ℕ) (o : older mode ≡ true) (a : SenderRun mode) (t : ℕ) (h : t < count mode a) (G : ℕ → Frames)
    (agree : (u : ℕ) → u ≤ t → frame_at mode a u ≡ filled mode (G u)) where
  abbrev pub X : Matrices
  X = matrices_at mode a t

  -- the working of a coded bit
  abbrev pub working_in : CodedBit → Worked
  working_in coded = worked (state_at mode 0 coded.from) coded.channel (channel_in (G coded.from) coded.channel) coded.frame coded.bit

  -- an answer of this L1 frame
  abbrev pub Comes : Option Entry → Type 0
  Comes (Some (Stands coded cell)) = cell.sent ≡ t → SumsTo (value_in X (Some (Stands coded cell))) (working_in coded)
  Comes (Some (Fill sent)) = Unit {0}
  Comes None = Unit {0}

  -- ---- PM

  p1-sums : (bit row column : ℕ) (p : Position) → located 1 0 bit ≡ Ok (at_cell p row column) → Comes (Some (in_pm t 1 0 bit row column))
  unfolding value_in channel_in filled
  p1-sums bit row column p e q =
      let c = (worked-sheets mode (older-main mode o) a t h).p1-bit 0 bit row column p (omega arith) e in
      subst (λ (f : Frames). SumsTo (bit_at X.pm (row * 720 + column)) (worked (state_at mode 0 t) 1 f.p1 0 bit)) (agree t (omega arith)) (sums-to _ _ (state_at mode 0 t) 1 (frame_at mode a t).p1 0 bit c)

  pids-sums : (frame bit row column : ℕ) (p : Position) → located 2 frame bit ≡ Ok (at_cell p row column) → Comes (Some (in_pm t 2 frame bit row column))
  unfolding value_in channel_in filled
  pids-sums frame bit row column p e q =
      let c = (worked-sheets mode (older-main mode o) a t h).pids-bit 0 frame bit row column p (omega arith) e in
      subst (λ (f : Frames). SumsTo (bit_at X.pm (row * 720 + column)) (worked (state_at mode 0 t) 2 f.pids frame bit)) (agree t (omega arith)) (sums-to _ _ (state_at mode 0 t) 2 (frame_at mode a t).pids frame bit c)

  back : (row column : ℕ) (f : Result Found Answer) → found row column ≡ f → (row < 512) × (column < 720) → located_again f ≡ Ok (at_cell (position_at 36 row column) row column)
  back row column f e (r, c) = ap located_again (sym e) ∙ both_ways.back row column r c

  here : (P : ℕ → Type 0) (u : ℕ) → u ≡ t → P t → P u
  here P u e p = subst P (sym e) p

  pm-found : (u row column : ℕ) (f : Result Found Answer) → found row column ≡ f → Comes (pm_entry u row column f)
  pm-found u row column (Ok (found-p1 bit)) e = λ q.
      here (λ (v : ℕ). v ≡ t → SumsTo (value_in X (Some (in_pm v 1 0 bit row column))) (working_in (record { channel = 1; from = v; frame = 0; bit = bit }))) u q
      (p1-sums bit row column _ (back row column (Ok (found-p1 bit)) e (p1-in-range row column bit e))) q
  pm-found u row column (Ok (found-pids frame bit)) e = λ q.
      here (λ (v : ℕ). v ≡ t → SumsTo (value_in X (Some (in_pm v 2 frame bit row column))) (working_in (record { channel = 2; from = v; frame = frame; bit = bit }))) u q
      (pids-sums frame bit row column _ (back row column (Ok (found-pids frame bit)) e (pids-in-range row column frame bit e))) q
  pm-found u row column (Err r) e = tt

  pm-located : (u c frame bit : ℕ) (l : Result Located Answer) → located c frame bit ≡ l → Comes (pm_placed u c frame bit l)
  pm-located u c frame bit (Ok cell) e = λ q.
      here (λ (v : ℕ). v ≡ t → SumsTo (value_in X (Some (in_pm v c frame bit cell.row cell.column))) (working_in (record { channel = c; from = v; frame = frame; bit = bit }))) u q
      (by-channel (λ (k f : ℕ). Comes (Some (in_pm t k f bit cell.row cell.column))) bit cell.row cell.column cell.position (λ d. p1-sums bit cell.row cell.column cell.position d) (λ f d. pids-sums f bit cell.row cell.column cell.position d) c frame e) q
  pm-located u c frame bit (Err r) e = tt

  -- ---- PX

  px-sums : (e : Extended) (from later frame bit pair row column : ℕ) → from + later ≡ t → located_px (state_at mode 0 from) (channel_number e) frame bit ≡ Ok (at_cell-px later pair row column)
      → SumsTo (bit_at (matrix_of mode X e) (cell_of (kind_of_number mode (channel_number e)) pair row column)) (worked (state_at mode 0 from) (channel_number e) (frame_of (G from) e) frame bit)
  unfolding worked filled
  px-sums e from later frame bit pair row column same f =
      let c = (worked-sheets mode (older-main mode o) a from (omega arith)).coded-bit e 0 frame bit later pair row column (omega arith) f (omega arith) in
      let s = sums-to _ _ (state_at mode 0 from) (channel_number e) (frame_of (frame_at mode a from) e) frame bit c in
      let cell = subst (λ (v : ℕ). SumsTo (bit_at (matrix_of mode (matrices_at mode a v) e) (cell_of (kind_of mode e) pair row column)) (worked (state_at mode 0 from) (channel_number e) (frame_of (frame_at mode a from) e) frame bit)) same s in
      let named = subst (λ (k : Kind). SumsTo (bit_at (matrix_of mode X e) (cell_of k pair row column)) (worked (state_at mode 0 from) (channel_number e) (frame_of (frame_at mode a from) e) frame bit)) (number_is mode o e) cell in
      subst (λ (l : List ℕ). SumsTo (bit_at (matrix_of mode X e) (cell_of (kind_of_number mode (channel_number e)) pair row column)) (worked_of (state_at mode 0 from) (channel_number e) l frame bit))
      (ap (λ (x : Frames). meant mode (channel_number e) (frame_of x e)) (agree from (omega arith)) ∙ meant-of e)
      named
    where
      meant-of : (e : Extended) → meant mode (channel_number e) (frame_of (filled mode (G from)) e) ≡ meant mode (channel_number e) (frame_of (G from) e)
      meant-of P3 = meant-filled mode o P3 (G from).p3
      meant-of P4 = meant-filled mode o P4 (G from).p4

  px-back : (e : Extended) (u pair row column k frame bit : ℕ) → u ≡ t → found_px (state_at mode 0 u) (channel_number e) pair row column ≡ Ok (Coded k frame bit)
      → SumsTo (bit_at (matrix_of mode X e) (cell_of (kind_of_number mode (channel_number e)) pair row column)) (worked (state_at mode 0 (u - k)) (channel_number e) (frame_of (G (u - k)) e) frame bit)
  px-back e u pair row column k frame bit same f =
      let (l, g) = (both-ways-px mode (older-covered mode o) (older-main mode o) e).back 0 0 u pair row column k frame bit (omega arith) (omega arith) f in
      px-sums e (u - k) k frame bit pair row column (omega arith) g

  in-px2 : (cell : ℕ) (w : Worked) → SumsTo (bit_at (matrix_of mode X P4) cell) w → SumsTo (bit_at X.px2 cell) w
  in-px2 cell w s = subst (λ (b : List ℕ). SumsTo (bit_at b cell) w) (px2-is mode o a t h) s

  px1-found : (u pair row column : ℕ) (f : Result FoundPx Answer) → found_px (state_at mode 0 u) 3 pair row column ≡ f → Comes (px_entry mode 3 u pair row column f)
  unfolding value_in channel_in
  px1-found u pair row column (Ok (Coded k frame bit)) e = λ q. px-back P3 u pair row column k frame bit q e
  px1-found u pair row column (Ok found-fill) e = tt
  px1-found u pair row column (Err r) e = tt

  px2-found : (u pair row column : ℕ) (f : Result FoundPx Answer) → found_px (state_at mode 0 u) 4 pair row column ≡ f → Comes (px_entry mode 4 u pair row column f)
  unfolding value_in channel_in
  px2-found u pair row column (Ok (Coded k frame bit)) e = λ q.
      in-px2 _ (worked (state_at mode 0 (u - k)) 4 (G (u - k)).p4 frame bit) (px-back P4 u pair row column k frame bit q e)
  px2-found u pair row column (Ok found-fill) e = tt
  px2-found u pair row column (Err r) e = tt

  px1-located : (u frame bit : ℕ) (l : Result LocatedPx Answer) → located_px (state_at mode 0 u) 3 frame bit ≡ l → Comes (px_placed mode 3 u frame bit l)
  unfolding value_in channel_in
  px1-located u frame bit (Ok cell) e = λ q. px-sums P3 u cell.later frame bit cell.pair cell.row cell.column q e
  px1-located u frame bit (Err r) e = tt

  px2-located : (u frame bit : ℕ) (l : Result LocatedPx Answer) → located_px (state_at mode 0 u) 4 frame bit ≡ l → Comes (px_placed mode 4 u frame bit l)
  unfolding value_in channel_in
  px2-located u frame bit (Ok cell) e = λ q.
      in-px2 _ (worked (state_at mode 0 u) 4 (G u).p4 frame bit) (px-sums P4 u cell.later frame bit cell.pair cell.row cell.column q e)
  px2-located u frame bit (Err r) e = tt

  -- any other channel is refused
  other-found : (c u pair row column : ℕ) → kind_of_number mode c ≡ Unused → Comes (px_entry mode c u pair row column (found_px (state_at mode 0 u) c pair row column))
  unfolding found_px
  other-found c u pair row column e = rw e (go (valid (state_at mode 0 u)))
    where
      go : (b : Bool) → Comes (px_entry mode c u pair row column (cond b (Err (WrongLength 0)) (Err StateNotValid)))
      go true = tt
      go false = tt

  other-located : (c u frame bit : ℕ) → kind_of_number mode c ≡ Unused → Comes (px_placed mode c u frame bit (located_px (state_at mode 0 u) c frame bit))
  unfolding located_px
  other-located c u frame bit e = rw e (go (valid (state_at mode 0 u)))
    where
      go : (b : Bool) → Comes (px_placed mode c u frame bit (cond b (Err (WrongLength 0)) (Err StateNotValid)))
      go true = tt
      go false = tt

  px-found : (u c pair row column : ℕ) → Comes (px_entry mode c u pair row column (found_px (state_at mode 0 u) c pair row column))
  px-found u c pair row column =
      by_number mode (λ (k : ℕ). Comes (px_entry mode k u pair row column (found_px (state_at mode 0 u) k pair row column)))
      (px1-found u pair row column (found_px (state_at mode 0 u) 3 pair row column) refl)
      (px2-found u pair row column (found_px (state_at mode 0 u) 4 pair row column) refl)
      (λ k e. other-found k u pair row column e) c

  px-located : (u c frame bit : ℕ) → Comes (px_placed mode c u frame bit (located_px (state_at mode 0 u) c frame bit))
  px-located u c frame bit =
      by_number mode (λ (k : ℕ). Comes (px_placed mode k u frame bit (located_px (state_at mode 0 u) k frame bit)))
      (px1-located u frame bit (located_px (state_at mode 0 u) 3 frame bit) refl)
      (px2-located u frame bit (located_px (state_at mode 0 u) 4 frame bit) refl)
      (λ k e. other-located k u frame bit e) c

  bit-comes : (c u frame bit : ℕ) → Comes (bit_entry mode c u frame bit)
  unfolding bit_entry
  bit-comes c u frame bit = go (ltb c 3)
    where
      go : (b : Bool)
          → Comes (cond b (pm_placed u c frame bit (located c frame bit)) (px_placed mode c u frame bit (located_px (state_at mode 0 u) c frame bit)))
      go true = pm-located u c frame bit (located c frame bit) refl
      go false = px-located u c frame bit

  if-sent : (b : Bool) (e : Option Entry) → Comes e → Comes (cond b e None)
  if-sent true e r = r
  if-sent false e r = tt

  pub asked-comes : (n : ℕ) (q : Option Question) → Comes (entry_of mode n q)
  unfolding entry_of
  asked-comes n (Some (Pm u row column)) = if-sent (ltb u n) (pm_entry u row column (found row column)) (pm-found u row column (found row column) refl)
  asked-comes n (Some (Px u c pair row column)) = if-sent (ltb u n) (px_entry mode c u pair row column (found_px (state_at mode 0 u) c pair row column)) (px-found u c pair row column)
  asked-comes n (Some (Bit u c frame bit)) = if-sent (ltb u n) (bit_entry mode c u frame bit) (bit-comes c u frame bit)
  asked-comes n None = tt
