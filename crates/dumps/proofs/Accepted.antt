-- Which dumps are accepted: those that the verdicts say. Assumes nothing.
use Prim.Native.Nat.{ℕ, suc, ◌/◌, ◌≤◌, ◌<◌}
use mathlib.Core.Path.{◌≡◌, refl, sym, ap, ap₂, ◌∙◌, subst}
use mathlib.Core.Logic.{◌≢◌}
use mathlib.Core.List.{List, [], append-nil, ◌∷◌, ◌++◌}
use native.Mathlib.Omega.{arith}
use lib.ListN.{length, get_or}
use Rattle.bits.specs.Bits.{Bytes}
use Rattle.runs.specs.declared.Answer.{Answer}
use Rattle.runs.specs.Answers.{number_of}
use Rattle.runs.specs.Handed.{Handed, given}
use Rattle.runs.specs.Lent.{filled}
use Rattle.runs.specs.Runs.{Call, Every, SenderRun, count, frames_sent, readings, sendings, signals_sent, succeeded}
use Rattle.runs.specs.WholeRuns.{no_call}
use Rattle.runs.proofs.Lists.{length-map}
use Rattle.runs.proofs.Whole.{whole-runs}
use Rattle.layout.specs.Layout.{body, dump_of, header, mark}
use Rattle.frames.specs.Read.{handed}
use Rattle.dumps.specs.declared.Verdict.{Verdict}
use Rattle.dumps.specs.Judged.{accepted, judged, verdict}
use Rattle.dumps.specs.Accepted.{Dumps, Readable}
use Rattle.dumps.proofs.Real.{dump-bytes}
use Rattle.dumps.specs.Refused.{Ruled, under-eight, wrong-mark, other-version, bad-mode, refused, cut_short, left_over, all-accepted}
use Rattle.dumps.proofs.Handing.{OkCall}
use Rattle.dumps.proofs.Refused.{verdicts}

complete-is : (d : List ℕ) → Readable d → judged d ≡ accepted
unfolding dump_of
complete-is d r =
    verdicts.judges d accepted
    (all-accepted r.mode (length r.signals) r.signals
    (r.layout ∙ ap (λ (b : List ℕ). header r.mode (length r.signals) ++ b) (sym (append-nil (body r.signals)))) refl
    (record { run = r.run; before = readings r.mode r.run; split = sym (append-nil (readings r.mode r.run)); given = r.given; handed = r.handed; each = r.each }))

-- ---- a sender's run

every_of : (gs : List Call) → ((t : ℕ) → t < length gs → OkCall (get_or gs t no_call)) → Every OkCall gs
every_of [] h = tt
every_of (g ∷ gs) h = (h 0 (omega arith), every_of gs (λ t l. h (suc t) (omega arith)))

sent-count : (mode : ℕ) (a : SenderRun mode) → length (signals_sent mode a) ≡ count mode a
unfolding signals_sent count frames_sent
sent-count mode a =
    let cs = succeeded (sendings mode a) in
    length-map (λ (c : Call). c.result.lent.signal) cs ∙ sym (length-map (λ (c : Call). filled mode c.lent.frames) cs)

sent-readable : (mode : ℕ) (a : SenderRun mode) → count mode a ≤ 65535 → Readable (dump_of mode (signals_sent mode a))
sent-readable mode a few =
    let w = whole-runs mode in
    let (b, gs, h) = w.readable a in
    let (n, back) = w.read_back a b gs h in
    record {
      mode = mode;
      signals = signals_sent mode a;
      few = omega (arith, sent-count mode a);
      layout = refl;
      run = b;
      given = gs;
      handed = h;
      each = every_of gs (λ t l. (back t (omega arith)).number-zero);
    }

-- ---- an accepted dump

-- a refusal is no acceptance
not-accepted : {A : Type 0} (a : Answer) (t : ℕ) → number_of a ≢ 0 → verdict a t ≡ accepted → A
not-accepted a t ne e = absurd (ne (ap (λ (v : Verdict). number_of v.answer) e))

some_number : {n : ℕ} → suc n ≢ 0
some_number e = omega arith

few-of : (d : List ℕ) → Bytes d → (mode count : ℕ) (rest : List ℕ) → d ≡ header mode count ++ rest → count ≤ 65535
unfolding header mark
few-of d small mode count rest e =
    let h : count / 256 < 256 = subst (λ (x : ℕ). x < 256) (ap (λ (l : List ℕ). get_or l 6 0) e) (small 6) in
    omega arith

readable_of : (d : List ℕ) → Bytes d → (v : Verdict) → v ≡ accepted → Ruled d v → Readable d
unfolding dump_of
readable_of d small v e (under-eight h) = not-accepted _ _ some_number e
readable_of d small v e (wrong-mark h n) = not-accepted _ _ some_number e
readable_of d small v e (other-version h w n) = not-accepted _ _ some_number e
readable_of d small v e (bad-mode h w u n) = not-accepted _ _ some_number e
readable_of d small v e (refused mode count xs x left c after q l a g ne) = not-accepted _ _ ne e
readable_of d small v e (cut_short mode count xs left q l a h) = not-accepted _ _ some_number e
readable_of d small v e (left_over mode count xs left q l a n) = not-accepted _ _ some_number e
readable_of d small v e (all-accepted mode count xs q l a) =
    record {
      mode = mode;
      signals = xs;
      few = omega (arith, few-of d small mode count (body xs ++ []) q);
      layout = q ∙ ap₂ (λ (n : ℕ) (b : List ℕ). header mode n ++ b) (sym l) (append-nil (body xs));
      run = a.run;
      given = a.given;
      handed = subst (λ (cs : List Call). Handed mode xs cs a.given) (sym (a.split ∙ append-nil a.before)) a.handed;
      each = a.each;
    }

sound-is : (d : List ℕ) → Bytes d → judged d ≡ accepted → Readable d
sound-is d small e = readable_of d small (judged d) e (verdicts.ruled d small)

pub dumps : Dumps
dumps =
    record {
      sound = sound-is;
      complete = complete-is;
      sent = λ mode a few. (
        dump-bytes mode a (omega (arith, sent-count mode a)),
        complete-is (dump_of mode (signals_sent mode a)) (sent-readable mode a few),
      );
    }
