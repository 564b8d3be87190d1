-- What a reading answers does not depend on what the frame buffers lent to it hold; and one L1 frame of a dump that a reader accepts. Assumes nothing.
use Prim.Native.Nat.{ℕ, suc, ◌≤◌}
use mathlib.Core.Path.{◌≡◌, refl, sym, ap, ap₂, ◌∙◌, subst}
use mathlib.Core.Logic.{◌≢◌}
use mathlib.Core.Bool.{Bool, true, false}
use mathlib.Core.Option.{none}
use mathlib.Core.List.{List, [], ◌∷◌, ◌++◌}
use native.Mathlib.Omega.{arith}
use lib.Dec.{eqb}
use lib.ListN.{length, take, length-append, length-replicate}
use lib.Seq.{drop_at, take_at}
use borrow.Author.Tests.{eqb-false, eqb-true}
use Rattle.runs.specs.declared.Answer.TheVariants.{Success}
use Rattle.runs.specs.declared.Extended.TheVariants.{P3, P4}
use Rattle.runs.specs.declared.State.{State}
use Rattle.runs.specs.Answers.{number_of}
use Rattle.runs.specs.Causes.{size, wrong}
use Rattle.runs.specs.Handed.{Given}
use Rattle.runs.specs.MainChannels.{main_of, p1_len, p2_len}
use Rattle.runs.specs.Lengths.{kind_of, frame_len, matrix_len, reader_len, pids_len, pm_len, px2_len, control_len}
use Rattle.runs.specs.Lent.{Lent, Memory, Result, Signal}
use Rattle.runs.specs.Reading.{read_answer, read_step, received, unnumbered}
use Rattle.runs.specs.Runs.{Call, ReaderRun, calls}
use Rattle.runs.specs.Sending.{lent_sizes, refused}
use Rattle.runs.specs.Starting.{next, start, zeros}
use Rattle.runs.proofs.Answered.{not-success, success-is}
use Rattle.runs.proofs.Lists.{cons-both}
use Rattle.runs.proofs.Memory.{read-refused}
use Rattle.runs.proofs.Passing.{wrong-cons, wrong-head, wrong-nil}
use Rattle.runs.proofs.Readable.{start-clear}
use Rattle.runs.proofs.States.{start-ok}
use Rattle.layout.specs.Layout.{bytes_of, frame_bytes}
use Rattle.layout.proofs.Laid.{Sized, bytes-length, signal-back}
use Rattle.frames.specs.Read.{blank, handed, read_frame}
use Rattle.dumps.specs.Judged.{accepted, judged_frames}
use Rattle.dumps.proofs.Steps.{goes_on, on-success}

abbrev pub Ok : Result → Type 0
Ok g = number_of g.answer ≡ 0

abbrev pub OkCall : Call → Type 0
OkCall c = Ok c.result

-- what is lent for the L1 frame x
abbrev pub handing : ℕ → Signal → Lent
handing mode x = handed (blank mode) x

-- ---- what a reading answers does not depend on what the frames lent to it hold

read-success : (s : State) (m : Memory) (l : Lent) → Ok (read_step s m l) → read_answer s m l ≡ Success
unfolding read_step
read-success s m l e = go (eqb (number_of (read_answer s m l)) 0) refl
  where
    go : (b : Bool) → eqb (number_of (read_answer s m l)) 0 ≡ b → read_answer s m l ≡ Success
    go true q = success-is _ (eqb-true _ _ q)
    go false q =
        let ne = eqb-false _ _ q in
        absurd
        (ne (sym (ap (λ (g : Result). number_of g.answer) (not-success (read_answer s m l) (received s m l) (refused s m (unnumbered l) (read_answer s m l)) (λ z. ne (ap number_of z)))) ∙ e))

read_done : (s : State) (m : Memory) (l : Lent) → read_answer s m l ≡ Success → read_step s m l ≡ received s m l
unfolding read_step
read_done s m l e = on-success (read_answer s m l) _ _ (ap number_of e)

pub by-sizes : (s : State) (m : Memory) (l : Lent) (mode : ℕ) → lent_sizes s.mode l ≡ lent_sizes s.mode (handing mode l.signal)
    → read_answer s m l ≡ read_answer s m (handing mode l.signal)
unfolding read_answer
by-sizes s m l mode e = rw e

pub same-sizes : (mode : ℕ) (l : Lent) → wrong 0 (lent_sizes mode l) ≡ none → lent_sizes mode l ≡ lent_sizes mode (handing mode l.signal)
unfolding lent_sizes blank
same-sizes mode l e =
    let (e₀, r₁) = wrong-head _ _ _ _ e in
    let (e₁, r₂) = wrong-head _ _ _ _ r₁ in
    let (e₂, r₃) = wrong-head _ _ _ _ r₂ in
    let (e₃, r₄) = wrong-head _ _ _ _ r₃ in
    let (e₄, r₅) = wrong-head _ _ _ _ r₄ in
    let q₀ = e₀ ∙ sym (length-replicate {A = ℕ} (p1_len (main_of mode)) 0) in
    let q₁ = e₁ ∙ sym (length-replicate {A = ℕ} pids_len 0) in
    let q₂ = e₂ ∙ sym (length-replicate {A = ℕ} (p2_len (main_of mode)) 0) in
    let q₃ = e₃ ∙ sym (length-replicate {A = ℕ} (frame_len (kind_of mode P3)) 0) in
    let q₄ = e₄ ∙ sym (length-replicate {A = ℕ} (frame_len (kind_of mode P4)) 0) in
    λ i.
    size (q₀ i) (p1_len (main_of mode)) ∷ size (q₁ i) pids_len ∷ size (q₂ i) (p2_len (main_of mode)) ∷ size (q₃ i) (frame_len (kind_of mode P3))
    ∷ size (q₄ i) (frame_len (kind_of mode P4))
    ∷ size (length l.signal.matrices.pm) pm_len
    ∷ size (length l.signal.matrices.px1) (matrix_len (kind_of mode P3))
    ∷ size (length l.signal.matrices.px2) (px2_len mode)
    ∷ size (length l.signal.control) control_len ∷ []

pub blank-fits : (mode : ℕ) (x : Signal) → Sized mode x → wrong 0 (lent_sizes mode (handed (blank mode) x)) ≡ none
unfolding lent_sizes blank
blank-fits mode x s =
    wrong-cons _ _ _ _ (length-replicate {A = ℕ} (p1_len (main_of mode)) 0)
    (wrong-cons _ _ _ _ (length-replicate {A = ℕ} pids_len 0)
    (wrong-cons _ _ _ _ (length-replicate {A = ℕ} (p2_len (main_of mode)) 0)
    (wrong-cons _ _ _ _ (length-replicate {A = ℕ} (frame_len (kind_of mode P3)) 0)
    (wrong-cons _ _ _ _ (length-replicate {A = ℕ} (frame_len (kind_of mode P4)) 0)
    (wrong-cons _ _ _ _ s.pm-right
    (wrong-cons _ _ _ _ s.px1-right (wrong-cons _ _ _ _ s.px2-right (wrong-cons _ _ _ _ s.control-right (wrong-nil _)))))))))

-- a reading that succeeds does so with blank frames too, and leaves the same state and memory
pub record Alike (s : State) (m : Memory) (l : Lent) (g : Result) : Type 0 where
  pub ok : Ok g
  pub state-is : g.state ≡ (read_step s m l).state
  pub memory-is : g.memory ≡ (read_step s m l).memory
  pub mode-is : (read_step s m l).state.mode ≡ s.mode

pub alike : (mode : ℕ) (s : State) (m : Memory) (l : Lent) → s.mode ≡ mode → wrong 0 (lent_sizes mode l) ≡ none → Ok (read_step s m l)
    → Alike s m l (read_step s m (handing mode l.signal))
unfolding received next
alike mode s m l em e ok =
    let a = read-success s m l ok in
    let sizes : lent_sizes s.mode l ≡ lent_sizes s.mode (handing mode l.signal)
    = ap (λ (k : ℕ). lent_sizes k l) em ∙ same-sizes mode l e ∙ ap (λ (k : ℕ). lent_sizes k (handing mode l.signal)) (sym em) in
    let b : read_answer s m (handing mode l.signal) ≡ Success = sym (by-sizes s m l mode sizes) ∙ a in
    let d = read_done s m l a in
    let d' = read_done s m (handing mode l.signal) b in
    record {
      ok = ap (λ (g : Result). number_of g.answer) d';
      state-is = ap (λ (g : Result). g.state) d' ∙ sym (ap (λ (g : Result). g.state) d);
      memory-is = ap (λ (g : Result). g.memory) d' ∙ sym (ap (λ (g : Result). g.memory) d);
      mode-is = ap (λ (g : Result). g.state.mode) d;
    }

-- ---- L1 frames that a reader's run was handed and accepted

module _ (mode : ℕ) where
  pub one-frame : (x : Signal) (rest : List ℕ) → Sized mode x → (j t : ℕ) (s : State) (m : Memory) → Ok (read_step s m (handing mode x))
      → judged_frames mode (suc j) t s m (bytes_of x ++ rest)
      ≡ judged_frames mode j (suc t) (read_step s m (handing mode x)).state (read_step s m (handing mode x)).memory rest
  unfolding read_frame
  one-frame x rest z j t s m ok =
      goes_on mode j t s m (bytes_of x ++ rest) fits (ap (λ (g : Result). number_of g.answer) reads ∙ ok)
      ∙ ap₂ (λ (g : Result) (l : List ℕ). judged_frames mode j (suc t) g.state g.memory l) reads (drop_at (bytes_of x) rest (frame_bytes mode) (bytes-length mode x z))
    where
      fits : frame_bytes mode ≤ length (bytes_of x ++ rest)
      fits = omega (arith, length-append (bytes_of x) rest, bytes-length mode x z)

      reads : read_frame mode s m (take (frame_bytes mode) (bytes_of x ++ rest)) ≡ read_step s m (handing mode x)
      reads =
          ap (λ (l : List ℕ). read_frame mode s m l) (take_at (bytes_of x) rest (frame_bytes mode) (bytes-length mode x z))
          ∙ ap (λ (y : Signal). read_step s m (handing mode y)) (signal-back mode x z)

  pub other_step : (s : State) (m : Memory) (l : Lent) (ls : List Lent) (c : Call) (cs : List Call)
      → c ∷ cs ≡ calls read_step s m (l ∷ ls) → number_of c.result.answer ≢ 0 → cs ≡ calls read_step s m ls
  unfolding calls
  other_step s m l ls c cs e ne =
      let (e₁, e₂) = cons-both c _ cs _ e in
      let kept = read-refused s m l (λ z. ne (ap (λ (x : Call). number_of x.result.answer) e₁ ∙ z)) in
      e₂ ∙ ap (λ (r : Result). calls read_step r.state r.memory ls) kept

  pub given-step : (s : State) (m : Memory) (x : Signal) (l : Lent) (ls : List Lent) (c : Call) (cs : List Call)
      → c ∷ cs ≡ calls read_step s m (l ∷ ls) → Given mode x c.lent → OkCall c
      → Given mode x l × Ok (read_step s m l) × (cs ≡ calls read_step (read_step s m l).state (read_step s m l).memory ls)
  unfolding calls
  given-step s m x l ls c cs e g ok =
      let (e₁, e₂) = cons-both c _ cs _ e in
      (subst (λ (y : Call). Given mode x y.lent) e₁ g, subst (λ (y : Call). Ok y.result) e₁ ok, e₂)

  pub none_left : (t : ℕ) (s : State) (m : Memory) → judged_frames mode 0 t s m [] ≡ accepted
  unfolding judged_frames
  none_left t s m = refl

-- ---- a reader begun fresh

pub fresh-of : (mode : ℕ) (b : ReaderRun mode) → start reader_len mode (zeros reader_len mode) ≡ start reader_len mode b.upon
fresh-of mode b =
    let (cov, e) = start-ok reader_len mode b.upon b.started in
    (start-ok reader_len mode (zeros reader_len mode) (start-clear reader_len mode cov)).1 ∙ sym e
