-- The verdict on each dump, refusals too: one of the clauses holds, and it gives the verdict. Assumes nothing.
use Prim.Native.Nat.{ℕ, suc, ◌+◌, ◌-◌, ◌≤◌}
use mathlib.Core.Path.{◌≡◌, refl, sym, ap, ◌∙◌, subst}
use mathlib.Core.Logic.{◌≢◌}
use mathlib.Core.Bool.{Bool, true, false, true≢false}
use mathlib.Core.List.{List, [], ◌∷◌, ◌++◌, cons-ne-nil}
use native.Mathlib.Nat.{zero-add}
use native.Mathlib.Omega.{arith}
use lib.Dec.{eqb, ltb}
use lib.ListN.{length, get_or, take, drop, length-append}
use lib.Seq.{take_at}
use borrow.Author.Tests.{eqb-false, eqb-true, ltb-false, ltb-true}
use Rattle.bits.specs.Bits.{Bytes}
use Rattle.bits.specs.Tests.{same}
use Rattle.bits.proofs.Tests.{same-eq, same-ne, same_true}
use Rattle.control.specs.Modes.{covered}
use Rattle.runs.specs.declared.Answer.{Answer}
use Rattle.runs.specs.declared.Answer.TheVariants.{ModeNotCovered, WrongEnd, WrongMark, WrongVersion}
use Rattle.runs.specs.declared.State.{State}
use Rattle.runs.specs.Answers.{number_of}
use Rattle.runs.specs.Handed.{Given, given}
use Rattle.runs.specs.Lengths.{reader_len}
use Rattle.runs.specs.Lent.{Lent, Memory, Signal}
use Rattle.runs.specs.Reading.{read_step}
use Rattle.runs.specs.Runs.{Call, calls, readings}
use Rattle.runs.specs.Sending.{lent_sizes}
use Rattle.runs.specs.Starting.{Started, start, zeros}
use Rattle.runs.proofs.Lists.{cons-both}
use Rattle.runs.proofs.Readable.{start-clear}
use Rattle.runs.proofs.TableStates.{covered-is, covered_of}
use Rattle.runs.proofs.TableReading.{read_step-answer}
use Rattle.layout.specs.Layout.{bytes_of, frame_bytes, header, mark, signal_in, word}
use Rattle.layout.specs.Heads.{head_answer}
use Rattle.layout.proofs.Laid.{Sized, bytes-length, signal-back, sized_of}
use Rattle.layout.proofs.Heads as heads
use Rattle.layout.proofs.Heads.{head_bytes, head-good, head_of, not_covered, not-marked, too_short}
use Rattle.frames.specs.Read.{read_frame}
use Rattle.dumps.specs.declared.Verdict.{Verdict}
use Rattle.dumps.specs.Judged.{judged, judged_frames, judged_fresh, verdict}
use Rattle.dumps.specs.Refused.{Accepts, Ruled, Verdicts, laid, under-eight, wrong-mark, other-version, bad-mode, refused, cut_short, left_over, all-accepted}
use Rattle.dumps.proofs.Steps.{refused-is, short-is}
use Rattle.dumps.proofs.Taken.{refused-head, taken-head}
use Rattle.dumps.proofs.Handing.{by-sizes, handing, none_left, same-sizes}
use Rattle.dumps.proofs.Stands.{left-judged, stands}
use Rattle.dumps.proofs.Ends.{Ends, Tail, cut, ends, finished, over, stopped}

-- ---- whichever clause holds gives the verdict

none-left-over : (mode t : ℕ) (s : State) (m : Memory) (left : List ℕ) → left ≢ [] → judged_frames mode 0 t s m left ≡ verdict WrongEnd t
unfolding judged_frames
none-left-over mode t s m [] n = absurd (n refl)
none-left-over mode t s m (b ∷ left) n = refl

-- the next call's answer is that of the reading of the dump's next L1 frame
next-answer : (mode : ℕ) (s : State) (m : Memory) (x : Signal) (l : Lent) (left : List ℕ) → s.mode ≡ mode → Given mode x l
    → (frame_bytes mode ≤ length (bytes_of x ++ left))
    × ((read_frame mode s m (take (frame_bytes mode) (bytes_of x ++ left))).answer ≡ (read_step s m l).answer)
unfolding read_frame
next-answer mode s m x l left em g = (
  omega (arith, length-append (bytes_of x) left, bytes-length mode x right),
  ap (λ (b : List ℕ). (read_step s m (handing mode (signal_in mode b))).answer) (take_at (bytes_of x) left (frame_bytes mode) (bytes-length mode x right))
      ∙ ap (λ (y : Signal). (read_step s m (handing mode y)).answer) (signal-back mode x right ∙ sym g.same)
      ∙ read_step-answer s m (handing mode l.signal)
      ∙ sym (by-sizes s m l mode sizes)
      ∙ sym (read_step-answer s m l),
)
  where
    right : Sized mode x
    right = subst (λ (y : Signal). Sized mode y) g.same (sized_of mode l g.lengths)

    sizes : lent_sizes s.mode l ≡ lent_sizes s.mode (handing mode l.signal)
    sizes =
        ap (λ (k : ℕ). lent_sizes k l) em ∙ same-sizes mode l g.lengths ∙ ap (λ (k : ℕ). lent_sizes k (handing mode l.signal)) (sym em)

refused-next : (mode j t : ℕ) (s : State) (m : Memory) (x : Signal) (left : List ℕ) (c : Call) (after : List Call) (ls : List Lent) → s.mode ≡ mode
    → c ∷ after ≡ calls read_step s m ls → Given mode x c.lent → number_of c.result.answer ≢ 0
    → judged_frames mode (suc j) t s m (bytes_of x ++ left) ≡ verdict c.result.answer t
unfolding calls
refused-next mode j t s m x left c after [] em q g ne = absurd (cons-ne-nil c after q)
refused-next mode j t s m x left c after (l ∷ ls) em q g ne =
    refused-is mode j t s m (bytes_of x ++ left) fits (λ z. ne (sym (ap number_of same_answer) ∙ z)) ∙ ap (λ (a : Answer). verdict a t) same_answer
  where
    is : c ≡ record { lent = l; result = read_step s m l }
    is = (cons-both c _ after _ q).0

    next : (frame_bytes mode ≤ length (bytes_of x ++ left))
        × ((read_frame mode s m (take (frame_bytes mode) (bytes_of x ++ left))).answer ≡ (read_step s m l).answer)
    next = next-answer mode s m x l left em (subst (λ (y : Call). Given mode x y.lent) is g)

    fits : frame_bytes mode ≤ length (bytes_of x ++ left)
    fits = next.0

    same_answer : (read_frame mode s m (take (frame_bytes mode) (bytes_of x ++ left))).answer ≡ c.result.answer
    same_answer = next.1 ∙ sym (ap (λ (y : Call). y.result.answer) is)

not-0 : {n : ℕ} → suc n ≢ 0
not-0 e = omega arith

not-true : (b : Bool) → (b ≡ true → ⊥) → b ≡ false
not-true true n = absurd (n refl)
not-true false n = refl

module _ (dump : List ℕ) where
  head-refused : (a : Answer) → a ≡ head_answer dump → number_of a ≢ 0 → judged dump ≡ verdict a 0
  head-refused a e ne = sym (refused-head dump a e ne)

  judges-is : (v : Verdict) → Ruled dump v → judged dump ≡ v
  judges-is v (under-eight h) = head-refused WrongMark (too_short dump h) not-0
  judges-is v (wrong-mark h n) = head-refused WrongMark (not-marked dump h (same-ne (take 3 dump) mark n)) not-0
  judges-is v (other-version h e n) = head-refused WrongVersion (heads.other-version dump h (same-eq (take 3 dump) mark e) n) not-0
  judges-is v (bad-mode h e w n) =
      head-refused ModeNotCovered (not_covered dump h (same-eq (take 3 dump) mark e) w (not-true (covered (get_or dump 5 0)) (λ c. n (covered-is (get_or dump 5 0) c)))) not-0
  judges-is v (refused mode count xs x left c after e l a g ne) =
      let k : ℕ = count - suc (length xs) in
      let o = stands mode count xs (c ∷ after) a in
      ap judged e
      ∙ left-judged mode count xs (c ∷ after) a (suc k) (bytes_of x ++ left) (omega arith)
      ∙ refused-next mode k (length xs) o.then-state o.then-memory x left c after o.then-lents o.mode-is o.calls_are g ne
  judges-is v (cut_short mode count xs left e l a s) =
      let k : ℕ = count - suc (length xs) in
      let o = stands mode count xs [] a in
      ap judged e
      ∙ left-judged mode count xs [] a (suc k) left (omega arith)
      ∙ short-is mode k (length xs) o.then-state o.then-memory left s
  judges-is v (left_over mode count xs left e l a n) =
      let o = stands mode count xs [] a in
      ap judged e
      ∙ left-judged mode count xs [] a 0 left (omega arith)
      ∙ none-left-over mode (length xs) o.then-state o.then-memory left n
      ∙ ap (verdict WrongEnd) l
  judges-is v (all-accepted mode count xs e l a) =
      let o = stands mode count xs [] a in
      ap judged e
      ∙ left-judged mode count xs [] a 0 [] (omega arith)
      ∙ none_left mode (length xs) o.then-state o.then-memory

-- ---- on each file one of the clauses holds

-- a header that is not refused
module _ (dump : List ℕ) (small : Bytes dump) (z : number_of (head_answer dump) ≡ 0) where
  abbrev mode₀ : ℕ
  mode₀ = get_or dump 5 0

  abbrev count₀ : ℕ
  count₀ = word (get_or dump 6 0) (get_or dump 7 0)

  abbrev begun₀ : Started
  begun₀ = start reader_len mode₀ (zeros reader_len mode₀)

  abbrev E : Ends mode₀ count₀ 0 begun₀.state begun₀.memory (drop 8 dump) (judged_frames mode₀ count₀ 0 begun₀.state begun₀.memory (drop 8 dump))
  E = ends mode₀ count₀ 0 begun₀.state begun₀.memory (drop 8 dump)

  judged-then : judged dump ≡ judged_frames mode₀ count₀ 0 begun₀.state begun₀.memory (drop 8 dump)
  unfolding judged_fresh
  judged-then = sym (taken-head dump z)

  laid_then : dump ≡ laid mode₀ count₀ E.signals E.left
  laid_then = head_bytes dump small (head_of dump z) ∙ ap (λ (b : List ℕ). header mode₀ count₀ ++ b) E.are

  accepts : Accepts mode₀ E.signals E.after
  unfolding readings
  accepts =
      record {
        run = record { upon = zeros reader_len mode₀; started = start-clear reader_len mode₀ (head_of dump z).mode-covered; lents = E.lents };
        before = E.before;
        split = E.split;
        given = E.given-calls;
        handed = E.handed;
        each = E.each;
      }

  by-tail : {after : List Call} {left : List ℕ} {v : Verdict} → dump ≡ laid mode₀ count₀ E.signals left → Accepts mode₀ E.signals after
      → Tail mode₀ (length E.signals) count₀ (0 + length E.signals) after left v → Ruled dump v
  by-tail d a (finished g p l q) =
      subst (Ruled dump) (sym q)
      (all-accepted mode₀ count₀ E.signals (d ∙ ap (laid mode₀ count₀ E.signals) l) g (subst (Accepts mode₀ E.signals) p a))
  by-tail {left = left} d a (over g p l q) =
      subst (Ruled dump) (sym (q ∙ ap (verdict WrongEnd) (zero-add (length E.signals) ∙ g)))
      (left_over mode₀ count₀ E.signals left d g (subst (Accepts mode₀ E.signals) p a) l)
  by-tail {left = left} d a (cut g p l q) =
      subst (Ruled dump) (sym (q ∙ ap (verdict WrongEnd) (zero-add (length E.signals))))
      (cut_short mode₀ count₀ E.signals left d g (subst (Accepts mode₀ E.signals) p a) l)
  by-tail d a (stopped g x rest c more l p w ne q) =
      subst (Ruled dump) (sym (q ∙ ap (verdict c.result.answer) (zero-add (length E.signals))))
      (refused mode₀ count₀ E.signals x rest c more (d ∙ ap (laid mode₀ count₀ E.signals) l) g (subst (Accepts mode₀ E.signals) p a) w ne)

  ruled-then : Ruled dump (judged dump)
  ruled-then = subst (Ruled dump) (sym judged-then) (by-tail laid_then accepts E.tail)

module _ (dump : List ℕ) (small : Bytes dump) where
  ruled-is : (l w u c : Bool) → ltb (length dump) 8 ≡ l → same (take 3 dump) mark ≡ w → eqb (word (get_or dump 3 0) (get_or dump 4 0)) 1 ≡ u
      → covered (get_or dump 5 0) ≡ c → Ruled dump (judged dump)
  ruled-is true w u c el ew eu ec =
      let h = ltb-true (length dump) 8 el in
      subst (Ruled dump) (refused-head dump WrongMark (too_short dump h) not-0) (under-eight h)
  ruled-is false false u c el ew eu ec =
      let h = ltb-false (length dump) 8 el in
      subst (Ruled dump) (refused-head dump WrongMark (not-marked dump h ew) not-0)
      (wrong-mark h (λ e. true≢false (sym (same-eq (take 3 dump) mark e) ∙ ew)))
  ruled-is false true false c el ew eu ec =
      let h = ltb-false (length dump) 8 el in
      let n = eqb-false (word (get_or dump 3 0) (get_or dump 4 0)) 1 eu in
      subst (Ruled dump) (refused-head dump WrongVersion (heads.other-version dump h ew n) not-0) (other-version h (same_true (take 3 dump) mark ew) n)
  ruled-is false true true false el ew eu ec =
      let h = ltb-false (length dump) 8 el in
      let v = eqb-true (word (get_or dump 3 0) (get_or dump 4 0)) 1 eu in
      subst (Ruled dump) (refused-head dump ModeNotCovered (not_covered dump h ew v ec) not-0)
      (bad-mode h (same_true (take 3 dump) mark ew) v (λ m. true≢false (sym (covered_of m) ∙ ec)))
  ruled-is false true true true el ew eu ec =
      let h = ltb-false (length dump) 8 el in
      let v = eqb-true (word (get_or dump 3 0) (get_or dump 4 0)) 1 eu in
      ruled-then dump small (sym (ap number_of (head-good dump h ew v ec)))

pub verdicts : Verdicts
verdicts =
    record {
      ruled = λ dump small.
          ruled-is dump small (ltb (length dump) 8) (same (take 3 dump) mark) (eqb (word (get_or dump 3 0) (get_or dump 4 0)) 1) (covered (get_or dump 5 0)) refl refl refl refl;
      judges = judges-is;
    }
