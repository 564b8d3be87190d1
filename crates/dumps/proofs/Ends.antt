-- How the L1 frames of a dump end: those that a reader accepts, and then nothing, bytes that are left, one that is cut short, or one that it refuses. Assumes nothing.
use Prim.Native.Nat.{ℕ, zero, suc, ◌+◌, ◌≤◌, ◌<◌}
use mathlib.Core.Path.{◌≡◌, refl, sym, ap, ◌∙◌}
use mathlib.Core.Logic.{◌≢◌}
use mathlib.Core.Bool.{Bool, true, false}
use mathlib.Core.List.{List, [], ◌∷◌, ◌++◌, append_assoc, cons-ne-nil}
use native.Mathlib.Nat.{add-zero, add-suc, suc-add}
use native.Mathlib.Omega.{arith}
use lib.Dec.{eqb, ltb}
use lib.ListN.{length, take, drop, take-append-drop}
use lib.Seq.{length-take-le}
use borrow.Author.Tests.{eqb-false, eqb-true, ltb-false, ltb-true}
use Rattle.bits.specs.Tests.{same}
use Rattle.runs.specs.declared.Answer.TheVariants.{WrongEnd}
use Rattle.runs.specs.declared.State.{State}
use Rattle.runs.specs.Answers.{number_of}
use Rattle.runs.specs.Handed.{Given, Handed, done, given}
use Rattle.runs.specs.Lent.{Lent, Memory, Result, Signal}
use Rattle.runs.specs.Reading.{read_step}
use Rattle.runs.specs.Runs.{Call, Every, calls}
use Rattle.layout.specs.Layout.{body, bytes_of, frame_bytes, signal_in}
use Rattle.layout.proofs.Laid.{bytes_back, sized-in}
use Rattle.frames.specs.Read.{read_frame}
use Rattle.dumps.specs.declared.Verdict.{Verdict}
use Rattle.dumps.specs.Judged.{accepted, judged_frames, verdict}
use Rattle.dumps.proofs.Steps.{goes_on, refused-is, short-is}
use Rattle.dumps.proofs.Handing.{Ok, OkCall, blank-fits, handing}

module _ (mode : ℕ) where
  -- so many L1 frames of n were accepted, and then
  pub data Tail (got n t : ℕ) (after : List Call) (left : List ℕ) (v : Verdict) : Type 0 where
    finished : got ≡ n → after ≡ [] → left ≡ [] → v ≡ accepted → Tail got n t after left v
    over : got ≡ n → after ≡ [] → left ≢ [] → v ≡ verdict WrongEnd t → Tail got n t after left v
    cut : got < n → after ≡ [] → length left < frame_bytes mode → v ≡ verdict WrongEnd t → Tail got n t after left v
    stopped : got < n → (x : Signal) (rest : List ℕ) (c : Call) (more : List Call) → left ≡ bytes_of x ++ rest → after ≡ c ∷ more
        → Given mode x c.lent → number_of c.result.answer ≢ 0 → v ≡ verdict c.result.answer t → Tail got n t after left v

  pub record Ends (n t : ℕ) (s : State) (m : Memory) (bytes : List ℕ) (v : Verdict) : Type 0 where
    pub signals : List Signal
    pub left : List ℕ
    pub are : bytes ≡ body signals ++ left
    pub lents : List Lent
    pub before : List Call
    pub after : List Call
    pub split : calls read_step s m lents ≡ before ++ after
    pub given-calls : List Call
    pub handed : Handed mode signals before given-calls
    pub each : Every OkCall given-calls
    pub tail : Tail (length signals) n (t + length signals) after left v

  tail_more : (got n t : ℕ) {after : List Call} {left : List ℕ} {v w : Verdict} → w ≡ v → Tail got n (suc t + got) after left v
      → Tail (suc got) (suc n) (t + suc got) after left w
  tail_more got n t e (finished g a l q) = finished (ap suc g) a l (e ∙ q)
  tail_more got n t e (over g a l q) = over (ap suc g) a l (e ∙ q ∙ ap (verdict WrongEnd) (suc-add t got ∙ sym (add-suc t got)))
  tail_more got n t e (cut g a l q) = cut (omega arith) a l (e ∙ q ∙ ap (verdict WrongEnd) (suc-add t got ∙ sym (add-suc t got)))
  tail_more got n t e (stopped g x rest c more l a w ne q) =
      stopped (omega arith) x rest c more l a w ne (e ∙ q ∙ ap (verdict c.result.answer) (suc-add t got ∙ sym (add-suc t got)))

  ends-none : (t : ℕ) (s : State) (m : Memory) (bytes : List ℕ) → Ends 0 t s m bytes (judged_frames mode 0 t s m bytes)
  unfolding judged_frames body calls
  ends-none t s m [] =
      record {
        signals = [];
        left = [];
        are = refl;
        lents = [];
        before = [];
        after = [];
        split = refl;
        given-calls = [];
        handed = done;
        each = tt;
        tail = finished refl refl refl refl;
      }
  ends-none t s m (b ∷ bytes) =
      record {
        signals = [];
        left = b ∷ bytes;
        are = refl;
        lents = [];
        before = [];
        after = [];
        split = refl;
        given-calls = [];
        handed = done;
        each = tt;
        tail = over refl refl (cons-ne-nil b bytes) (ap (verdict WrongEnd) (sym (add-zero t)));
      }

  module _ (n t : ℕ) (s : State) (m : Memory) (bytes : List ℕ) where
    abbrev x : Signal
    x = signal_in mode (take (frame_bytes mode) bytes)

    abbrev g : Result
    g = read_step s m (handing mode x)

    ends-cut : length bytes < frame_bytes mode → Ends (suc n) t s m bytes (judged_frames mode (suc n) t s m bytes)
    unfolding body calls
    ends-cut h =
        record {
          signals = [];
          left = bytes;
          are = refl;
          lents = [];
          before = [];
          after = [];
          split = refl;
          given-calls = [];
          handed = done;
          each = tt;
          tail = cut (omega arith) refl h (short-is mode n t s m bytes h ∙ ap (verdict WrongEnd) (sym (add-zero t)));
        }

    module _ (le : frame_bytes mode ≤ length bytes) where
      long : length (take (frame_bytes mode) bytes) ≡ frame_bytes mode
      long = length-take-le (frame_bytes mode) bytes le

      fitting : Given mode x (handing mode x)
      fitting = record { same = refl; lengths = blank-fits mode x (sized-in mode (take (frame_bytes mode) bytes) long) }

      whole : bytes ≡ bytes_of x ++ drop (frame_bytes mode) bytes
      whole =
          sym (take-append-drop (frame_bytes mode) bytes)
          ∙ ap (λ (a : List ℕ). a ++ drop (frame_bytes mode) bytes) (sym (bytes_back mode (take (frame_bytes mode) bytes) long))

      ends-stopped : number_of g.answer ≢ 0 → Ends (suc n) t s m bytes (judged_frames mode (suc n) t s m bytes)
      unfolding body calls read_frame
      ends-stopped ne =
          record {
            signals = [];
            left = bytes;
            are = refl;
            lents = handing mode x ∷ [];
            before = [];
            after = record { lent = handing mode x; result = g } ∷ [];
            split = refl;
            given-calls = [];
            handed = done;
            each = tt;
            tail = stopped (omega arith) x (drop (frame_bytes mode) bytes) (record { lent = handing mode x; result = g }) [] whole refl fitting ne
                (refused-is mode n t s m bytes le ne ∙ ap (verdict g.answer) (sym (add-zero t)));
          }

      ends_more : Ok g → Ends n (suc t) g.state g.memory (drop (frame_bytes mode) bytes) (judged_frames mode n (suc t) g.state g.memory (drop (frame_bytes mode) bytes))
          → Ends (suc n) t s m bytes (judged_frames mode (suc n) t s m bytes)
      unfolding body calls read_frame
      ends_more ok e =
          record {
            signals = x ∷ e.signals;
            left = e.left;
            are = whole ∙ ap (λ (b : List ℕ). bytes_of x ++ b) e.are ∙ sym (append_assoc (bytes_of x) (body e.signals) e.left);
            lents = handing mode x ∷ e.lents;
            before = record { lent = handing mode x; result = g } ∷ e.before;
            after = e.after;
            split = ap (λ (cs : List Call). record { lent = handing mode x; result = g } ∷ cs) e.split;
            given-calls = record { lent = handing mode x; result = g } ∷ e.given-calls;
            handed = given fitting e.handed;
            each = (ok, e.each);
            tail = tail_more (length e.signals) n t (goes_on mode n t s m bytes le ok) e.tail;
          }

  pub ends : (n t : ℕ) (s : State) (m : Memory) (bytes : List ℕ) → Ends n t s m bytes (judged_frames mode n t s m bytes)
  ends zero t s m bytes = ends-none t s m bytes
  ends (suc n) t s m bytes =
      go (ltb (length bytes) (frame_bytes mode)) (eqb (number_of (g n t s m bytes).answer) 0) refl refl
      (ends n (suc t) (g n t s m bytes).state (g n t s m bytes).memory (drop (frame_bytes mode) bytes))
    where
      go : (a b : Bool) → ltb (length bytes) (frame_bytes mode) ≡ a → eqb (number_of (g n t s m bytes).answer) 0 ≡ b
          → Ends n (suc t) (g n t s m bytes).state (g n t s m bytes).memory (drop (frame_bytes mode) bytes)
          (judged_frames mode n (suc t) (g n t s m bytes).state (g n t s m bytes).memory (drop (frame_bytes mode) bytes))
          → Ends (suc n) t s m bytes (judged_frames mode (suc n) t s m bytes)
      go true b ea eb later = ends-cut n t s m bytes (ltb-true _ _ ea)
      go false true ea eb later = ends_more n t s m bytes (ltb-false _ _ ea) (eqb-true _ _ eb) later
      go false false ea eb later = ends-stopped n t s m bytes (ltb-false _ _ ea) (eqb-false _ _ eb)
