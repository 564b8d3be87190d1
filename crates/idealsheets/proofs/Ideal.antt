-- A sheet of an input whose L1 frames are all sent is the one that SY_IDD_1011s lays down for its transfer frames. Assumes nothing.
use mathlib.Core.Path.{◌≡◌, refl, sym, ap, subst, ◌∙◌}
use mathlib.Core.Bool.{Bool, true}
use mathlib.Core.List.{List, [], ◌∷◌, ◌++◌, map, append_assoc}
use Prim.Native.Nat.{ℕ, suc, ◌+◌, ◌*◌, ◌<◌}
use native.Mathlib.Omega.{arith}
use lib.ListN.{length, get_or, drop}
use Rattle.bits.specs.Bits.{Bytes}
use Rattle.runs.specs.declared.Extended.TheVariants.{P3, P4}
use Rattle.runs.specs.Lengths.{sender_len}
use Rattle.runs.specs.Lent.{Frames, Matrices, Signal, filled}
use Rattle.runs.specs.Runs.{Call, Every, SenderRun, count, frame_at, frames_sent, matrices_at, no_frames, no_signal, sendings, signals_sent, succeeded}
use Rattle.runs.specs.Starting.{zeros}
use Rattle.runs.proofs.Lists.{length-map}
use Rattle.runs.proofs.Readable.{start-clear}
use Rattle.layout.specs.Inputs.{frames_in}
use Rattle.text.specs.Lines.{lines}
use Rattle.sheetlines.specs.Entries.{entry_of, turn_of}
use Rattle.std.specs.Prelude.{Option, Some}
use Rattle.sheetlines.specs.declared.questions.Question.{Question}
use Rattle.sheetlines.specs.declared.entries.Cell.{Cell}
use Rattle.sheetlines.specs.declared.entries.CodedBit.{CodedBit}
use Rattle.sheetlines.specs.declared.entries.Entry.{Entry}
use Rattle.sheetlines.specs.declared.entries.Entry.TheVariants.{Stands}
use Rattle.sheettext.specs.Texts.{ending, head, value_in, value_text}
use Rattle.sheetworks.specs.Works.{bytes_at, work_text, working_of}
use Rattle.sheetlists.specs.Lists.{answered, answers, refusals, valued}
use Rattle.sheetinputs.specs.Inputs.{behind, carried, empty_at, empty_line, frame_size, list_in}
use Rattle.sheetinputs.specs.Run.{lents, sent}
use Rattle.sheetruns.specs.Told.{told, unsent}
use Rattle.sheets.specs.Sheet.{sheet_of}
use Rattle.idealsheets.specs.Ideal.{Sent, SumsTo, bit_of, coded_bit, frames_at, ideal_answers, ideal_sheet}
use Rattle.idealsheets.proofs.Sequence.{Ok, bytes_drop, calls-length, lents-bytes, lents-length, meant_of, nth-frame, succeeded-all}
use Rattle.sheetruns.proofs.Loop.{on-success}
use Rattle.sheetruns.proofs.Same.{answers-same}
use Rattle.sheetinputs.proofs.Older.{older-covered}
use Rattle.sheets.proofs.Texts.{by_frames, by-list}
use Rattle.idealsheets.proofs.Values.{asked-value}
use Rattle.idealsheets.proofs.Worked.{Comes, asked-comes}

abbrev signal_of : Call → Signal
signal_of c = c.result.lent.signal

module _ (working : Option Entry → List ℕ) (mode count : ℕ) (ls : List (List ℕ)) (F : ℕ → Frames) where
  told-ideal : (cs : List Call) (t : ℕ) (text : List ℕ) → Every Ok cs
      → ((i u : ℕ) → i < length cs → u ≡ t + i → answers (valued working count (value_in (get_or (map signal_of cs) i no_signal).matrices)) mode count u ls ≡ answers (valued working count (coded_bit mode F)) mode count u ls)
      → told working mode count ls t text cs ≡ text ++ (ideal_answers working mode count ls F (length cs) t ++ (unsent working mode count ls ++ ending (answered mode count ls)))
  unfolding told ideal_answers
  told-ideal [] t text e h = refl
  told-ideal (c ∷ cs) t text e h =
      let A : List ℕ = answers (valued working count (coded_bit mode F)) mode count t ls in
      let R : List ℕ = ideal_answers working mode count ls F (length cs) (suc t) in
      let E : List ℕ = unsent working mode count ls ++ ending (answered mode count ls) in
      on-success c.result.answer _ _ e.0
      ∙ ap (λ (x : List ℕ). told working mode count ls (suc t) (text ++ x) cs) (h 0 t (omega arith) (omega arith))
      ∙ told-ideal cs (suc t) (text ++ A) e.1 (λ i u l q. h (suc i) u (omega arith) (omega arith))
      ∙ append_assoc text A (R ++ E)
      ∙ ap (λ (x : List ℕ). text ++ x) (sym (append_assoc A R E))

-- ---- the theorem

module _ (mode n : ℕ) (without3 without4 : Bool) (input : List ℕ) (small : Bytes input) (w : Sent mode n without3 without4 input) where
  abbrev n3 : ℕ
  n3 = carried mode P3 without3

  abbrev n4 : ℕ
  n4 = carried mode P4 without4

  abbrev B : List ℕ
  B = behind input

  abbrev L : List (List ℕ)
  L = lines (list_in input)

  abbrev run : SenderRun mode
  run =
      record {
        upon = zeros sender_len mode;
        started = start-clear sender_len mode (older-covered mode w.mode-older);
        lents = lents mode n3 n4 n B;
        bytes = lents-bytes mode n3 n4 n B (bytes_drop (empty_line true input + empty_at (drop (empty_line true input) input)) input small);
      }

  all-sent : succeeded (sendings mode run) ≡ sent mode n n3 n4 B
  unfolding sendings sent
  all-sent = succeeded-all _ w.each

  sent-length : length (sent mode n n3 n4 B) ≡ n
  unfolding sent
  sent-length = calls-length _ _ _ ∙ lents-length mode n3 n4 n B

  run_length : count mode run ≡ n
  unfolding count frames_sent
  run_length = length-map (meant_of mode) (succeeded (sendings mode run)) ∙ ap length all-sent ∙ sent-length

  frame_is : (t : ℕ) → t < n → frame_at mode run t ≡ frames_at mode n3 n4 B t
  unfolding frame_at frames_sent sent
  frame_is t h = ap (λ (cs : List Call). get_or (map (meant_of mode) cs) t no_frames) all-sent ∙ nth-frame mode n3 n4 n t _ _ B h

  matrices-are : (t : ℕ) → matrices_at mode run t ≡ (get_or (map signal_of (sent mode n n3 n4 B)) t no_signal).matrices
  unfolding matrices_at signals_sent
  matrices-are t = ap (λ (cs : List Call). (get_or (map signal_of cs) t no_signal).matrices) all-sent

  bit_is : (t : ℕ) → t < n → (q : Option Question) → turn_of n (entry_of mode n q) ≡ t
      → value_in (matrices_at mode run t) (entry_of mode n q) ≡ coded_bit mode (frames_at mode n3 n4 B) (entry_of mode n q)
  bit_is t h q e = asked-value mode w.mode-older run t (subst (λ (k : ℕ). t < k) (sym run_length) h) (frames_at mode n3 n4 B) (λ u l. frame_is u (omega arith)) n h q e

  module _ (work : Bool) where
    abbrev working : Option Entry → List ℕ
    working = work_text work mode n3 n4 B

    value-is : (t : ℕ) → t < n → (q : Option Question) → turn_of n (entry_of mode n q) ≡ t
        → valued working n (value_in (get_or (map signal_of (sent mode n n3 n4 B)) t no_signal).matrices) (entry_of mode n q) ≡ valued working n (coded_bit mode (frames_at mode n3 n4 B)) (entry_of mode n q)
    value-is t h q e =
        ap (λ (x : ℕ). value_text n (entry_of mode n q) x ++ working (entry_of mode n q))
        (ap (λ (x : Matrices). value_in x (entry_of mode n q)) (sym (matrices-are t)) ∙ bit_is t h q e)

    pub whole-sheet : sheet_of mode n without3 without4 work input ≡ ideal_sheet mode n without3 without4 work input
    unfolding ideal_sheet
    whole-sheet =
        sym (by-list mode n without3 without4 work input w.mode-older w.channels-named w.count_small w.list-short w.list-ended)
        ∙ sym (by_frames mode n without3 without4 work n3 n4 (list_in input) B (n * frame_size mode n3 n4) refl w.whole)
        ∙ told-ideal working mode n L (frames_at mode n3 n4 B) (sent mode n n3 n4 B) 0 (head mode n without3 without4 work ++ refusals mode n 1 L) w.each
        (λ i u l q.
        let same : i ≡ u = omega arith in
        subst (λ (k : ℕ). answers (valued working n (value_in (get_or (map signal_of (sent mode n n3 n4 B)) i no_signal).matrices)) mode n k L ≡ answers (valued working n (coded_bit mode (frames_at mode n3 n4 B))) mode n k L) same
        (answers-same _ _ mode n i (value-is i (omega (arith, sent-length))) L))
        ∙ ap (λ (k : ℕ). (head mode n without3 without4 work ++ refusals mode n 1 L) ++ (ideal_answers working mode n L (frames_at mode n3 n4 B) k 0 ++ (unsent working mode n L ++ ending (answered mode n L)))) sent-length
        ∙ append_assoc (head mode n without3 without4 work) (refusals mode n 1 L) _

  -- the transfer frames as they are handed over, where nothing means zeros
  abbrev G : ℕ → Frames
  G u = frames_in mode n3 n4 (bytes_at mode n3 n4 B u)

  handed-is : (u : ℕ) → u < n → frame_at mode run u ≡ filled mode (G u)
  unfolding frames_at bytes_at
  handed-is u l = frame_is u l

  -- the working below an answer whose bit is sent comes to the answer's value
  pub worked-value : (q : Option Question) (coded : CodedBit) (cell : Cell) → entry_of mode n q ≡ Some (Stands coded cell) → cell.sent < n
      → SumsTo (bit_of mode (frames_at mode n3 n4 B) coded) (working_of mode n3 n4 B coded)
  unfolding working_of coded_bit turn_of
  worked-value q coded cell e h =
      let t : ℕ = cell.sent in
      let inside = subst (λ (k : ℕ). t < k) (sym run_length) h in
      let turn : turn_of n (Some (Stands coded cell)) ≡ t = omega arith in
      let value = subst (λ (x : Option Entry). turn_of n x ≡ t → value_in (matrices_at mode run t) x ≡ coded_bit mode (frames_at mode n3 n4 B) x) e (bit_is t h q) turn in
      let comes = subst (Comes mode w.mode-older run t inside G (λ u l. handed-is u (omega arith))) e (asked-comes mode w.mode-older run t inside G (λ u l. handed-is u (omega arith)) n q) refl in
      subst (λ (b : ℕ). SumsTo b (working_of mode n3 n4 B coded)) value comes
