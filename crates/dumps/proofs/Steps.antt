-- The verdict on L1 frames, one at a time. Assumes nothing.
use Prim.Native.Nat.{ℕ, suc, ◌+◌, ◌-◌, ◌≤◌, ◌<◌}
use mathlib.Core.Path.{◌≡◌, refl, sym, ap, ap₂, ◌∙◌}
use mathlib.Core.Logic.{◌≢◌}
use mathlib.Core.List.{List, [], ◌∷◌}
use native.Mathlib.Decide.{dec_lt}
use native.Mathlib.Omega.{arith}
use lib.ListN.{length, take, drop, length-drop}
use lib.Seq.{drop-drop, take_all}
use borrow.Author.Tests.{lt-ltb, le-ltb}
use Rattle.runs.specs.declared.Answer.{Answer}
use Rattle.runs.specs.declared.Answer.TheVariants.{WrongEnd}
use Rattle.runs.specs.declared.State.{State}
use Rattle.runs.specs.Answers.{number_of, on_success}
use Rattle.runs.specs.Lengths.{reader_len}
use Rattle.runs.specs.Lent.{Memory, Result}
use Rattle.runs.specs.Starting.{Started, start, zeros}
use Rattle.runs.proofs.Answered.{not-success, success-is}
use Rattle.calls.specs.Called.{start_gave}
use Rattle.calls.specs.declared.states.Outcome.{Outcome}
use Rattle.calls.specs.declared.states.ReadOutcome.{ReadOutcome}
use Rattle.layout.specs.Layout.{frame_bytes}
use Rattle.frames.specs.Read.{read_frame}
use Rattle.dumps.specs.declared.Verdict.{Verdict}
use Rattle.dumps.specs.declared.Judged.{Judged}
use Rattle.dumps.specs.Next.{Next, judged_one, next}
use Rattle.dumps.specs.Judged.{accepted, ended, judged_frames, judged_fresh, verdict}

pub on-success : {A : Type 0} (a : Answer) (x y : A) → number_of a ≡ 0 → on_success a x y ≡ x
unfolding on_success
on-success a x y e = rw (success-is a e)

module _ (mode j t : ℕ) (s : State) (m : Memory) (bytes : List ℕ) where
  pub short-is : length bytes < frame_bytes mode → judged_frames mode (suc j) t s m bytes ≡ verdict WrongEnd t
  unfolding judged_frames
  short-is h = rw (lt-ltb (length bytes) (frame_bytes mode) h)

  abbrev g : Result
  g = read_frame mode s m (take (frame_bytes mode) bytes)

  pub refused-is : frame_bytes mode ≤ length bytes → number_of g.answer ≢ 0
      → judged_frames mode (suc j) t s m bytes ≡ verdict g.answer t
  unfolding judged_frames
  refused-is h ne = rw (le-ltb (length bytes) (frame_bytes mode) h) (not-success g.answer _ _ (λ e. ne (ap number_of e)))

  pub goes_on : frame_bytes mode ≤ length bytes → number_of g.answer ≡ 0
      → judged_frames mode (suc j) t s m bytes ≡ judged_frames mode j (suc t) g.state g.memory (drop (frame_bytes mode) bytes)
  unfolding judged_frames
  goes_on h e = rw (le-ltb (length bytes) (frame_bytes mode) h) (on-success g.answer _ _ e)

-- ---- one L1 frame of the code

module _ (mode t : ℕ) (s : State) (m : Memory) (bytes : List ℕ) where
  abbrev G : Result
  G = read_frame mode s m (take (frame_bytes mode) bytes)

  cut-is : length bytes < frame_bytes mode → judged_one mode t s m bytes ≡ next (record { verdict = verdict WrongEnd t; state = s }) m
  unfolding judged_one
  cut-is h = rw (lt-ltb (length bytes) (frame_bytes mode) h)

  read_is : frame_bytes mode ≤ length bytes → judged_one mode t s m bytes ≡ next (record { verdict = verdict G.answer t; state = G.state }) G.memory
  unfolding judged_one
  read_is h = rw (le-ltb (length bytes) (frame_bytes mode) h)

  -- L1 frame t decides; or, with the number 0, those after it do, from the state and the memory that it leaves
  record Decides (r : Judged) (after : Memory) : Type 0 where
    stops : number_of r.verdict.answer ≢ 0 → (n : ℕ) → judged_frames mode (suc n) t s m bytes ≡ r.verdict
    fits : number_of r.verdict.answer ≡ 0 → frame_bytes mode ≤ length bytes
    goes-on-with : number_of r.verdict.answer ≡ 0 → (n : ℕ)
        → judged_frames mode (suc n) t s m bytes ≡ judged_frames mode n (suc t) r.state after (drop (frame_bytes mode) bytes)

  module _ (r : Judged) (m' : Memory) where
    if-cut : length bytes < frame_bytes mode → next r m' ≡ next (record { verdict = verdict WrongEnd t; state = s }) m → Decides r m'
    if-cut h q =
        record {
          stops = λ ne k. short-is mode k t s m bytes h ∙ sym (ap (λ (o : Next). o.judged.verdict) q);
          fits = λ z. absurd (not-zero z);
          goes-on-with = λ z. absurd (not-zero z);
        }
      where
        not-zero : number_of r.verdict.answer ≡ 0 → ⊥
        not-zero z = let q : number_of r.verdict.answer ≡ number_of WrongEnd = ap (λ (o : Next). number_of o.judged.verdict.answer) q in omega arith

    if-whole : frame_bytes mode ≤ length bytes → next r m' ≡ next (record { verdict = verdict G.answer t; state = G.state }) G.memory → Decides r m'
    if-whole h q =
        record {
          stops = λ ne k. refused-is mode k t s m bytes h (λ z. ne (number_is ∙ z)) ∙ sym (ap (λ (o : Next). o.judged.verdict) q);
          fits = λ z. h;
          goes-on-with = λ z k.
              goes_on mode k t s m bytes h (sym number_is ∙ z)
              ∙ sym (ap (λ (o : Next). judged_frames mode k (suc t) o.judged.state o.memory (drop (frame_bytes mode) bytes)) q);
        }
      where
        number_is : number_of r.verdict.answer ≡ number_of G.answer
        number_is = ap (λ (o : Next). number_of o.judged.verdict.answer) q

    decides : next r m' ≡ judged_one mode t s m bytes → Decides r m'
    decides e =
        elim (dec_lt (length bytes) (frame_bytes mode)) [
          | yes h ↦ if-cut h (e ∙ cut-is h)
          | no h ↦ let l : frame_bytes mode ≤ length bytes = omega arith in if-whole l (e ∙ read_is l)
        ]

module _ (mode t : ℕ) (s : State) (m : Memory) (bytes : List ℕ) (n : ℕ) (size : n ≡ frame_bytes mode) where
  pub cut_short : length bytes < n → (v : Verdict) → v ≡ verdict WrongEnd t → next (record { verdict = v; state = s }) m ≡ judged_one mode t s m bytes
  cut_short h v e = ap (λ (x : Verdict). next (record { verdict = x; state = s }) m) e ∙ sym (cut-is mode t s m bytes (omega arith))

  module _ (le : n ≤ length bytes) (r : ReadOutcome) (m' : Memory) (z : ℕ)
      (e : (r.answer ≡ (read_frame mode s m (take n bytes)).answer) × (r.state ≡ (read_frame mode s m (take n bytes)).state) × (m' ≡ (read_frame mode s m (take n bytes)).memory)
      × (r.reserved ≡ z)) where
    same-frame : read_frame mode s m (take n bytes) ≡ G mode t s m bytes
    same-frame = ap (λ (k : ℕ). read_frame mode s m (take k bytes)) size

    pub read_next : (v : Verdict) → v ≡ verdict r.answer t → next (record { verdict = v; state = r.state }) m' ≡ judged_one mode t s m bytes
    read_next v q =
        let answer-is = e.0 ∙ ap (λ (g : Result). g.answer) same-frame in
        let state-is = e.1 ∙ ap (λ (g : Result). g.state) same-frame in
        let memory-is = e.2 ∙ ap (λ (g : Result). g.memory) same-frame in
        let verdict-is = q ∙ ap (λ (a : Answer). verdict a t) answer-is in
        (λ i. next (record { verdict = verdict-is i; state = state-is i }) (memory-is i)) ∙ sym (read_is mode t s m bytes (omega arith))

-- ---- the loop of the code

module _ (mode count : ℕ) (frames : List ℕ) where
  pub begun : (r : Outcome) (m m₀ : Memory) → start_gave r m ≡ start reader_len mode m₀ → m₀ ≡ zeros reader_len mode
      → judged_frames mode (count - 0) 0 r.state m frames ≡ judged_fresh mode count frames
  unfolding judged_fresh
  begun r m m₀ e z =
      let none : count - 0 ≡ count = omega arith in
      ap (λ (k : ℕ). judged_frames mode k 0 r.state m frames) none
      ∙ ap (λ (b : Started). judged_frames mode count 0 b.state b.memory frames) (e ∙ ap (λ (x : Memory). start reader_len mode x) z)

  module _ (n at t : ℕ) (s : State) (m : Memory) (size : n ≡ frame_bytes mode)
      (inv : judged_frames mode (count - t) t s m (drop at frames) ≡ judged_fresh mode count frames) where
    split : t < count → judged_frames mode (suc (count - (t + 1))) t s m (drop at frames) ≡ judged_fresh mode count frames
    split h =
        let more : count - t ≡ suc (count - (t + 1)) = omega arith in
        ap (λ (k : ℕ). judged_frames mode k t s m (drop at frames)) (sym more) ∙ inv

    -- what is left, as a part of what is lent
    module _ (h : t < count) (r : Judged) (m' : Memory) (x : next r m' ≡ judged_one mode t s m (take (length frames - at) (drop at frames))) where
      left_is : take (length frames - at) (drop at frames) ≡ drop at frames
      left_is = take_all (length frames - at) (drop at frames) (omega (arith, length-drop at frames))

      then : Decides mode t s m (drop at frames) r m'
      then = decides mode t s m (drop at frames) r m' (x ∙ ap (judged_one mode t s m) left_is)

      pub turned_down : number_of r.verdict.answer ≢ 0 → r.verdict ≡ judged_fresh mode count frames
      turned_down ne = sym (then.stops ne (count - (t + 1))) ∙ split h

      pub room : number_of r.verdict.answer ≡ 0 → n ≤ length frames - at
      room z = omega (arith, then.fits z, length-drop at frames)

      pub next_one : number_of r.verdict.answer ≡ 0
          → judged_frames mode (count - (t + 1)) (t + 1) r.state m' (drop (at + n) frames) ≡ judged_fresh mode count frames
      next_one z =
          let one : t + 1 ≡ suc t = omega arith in
          ap₂ (λ (k : ℕ) (l : List ℕ). judged_frames mode (count - (t + 1)) k r.state m' l) one rest-is
          ∙ sym (then.goes-on-with z (count - (t + 1))) ∙ split h
        where
          rest-is : drop (at + n) frames ≡ drop (frame_bytes mode) (drop at frames)
          rest-is = sym (drop-drop n at frames) ∙ ap (λ (k : ℕ). drop k (drop at frames)) size

    -- after the last
    none_left : (bytes : List ℕ) → length bytes ≡ 0 → ended t bytes ≡ accepted
    none_left [] e = refl
    none_left (b ∷ bytes) e = absurd (omega arith)

    some_left : (bytes : List ℕ) → 0 < length bytes → ended t bytes ≡ verdict WrongEnd t
    some_left [] l = absurd (omega arith)
    some_left (b ∷ bytes) l = refl

    at-end : count ≡ t → ended t (drop at frames) ≡ judged_fresh mode count frames
    unfolding judged_frames
    at-end e =
        let z : count - t ≡ 0 = omega arith in
        sym (ap (λ (k : ℕ). judged_frames mode k t s m (drop at frames)) z) ∙ inv

    pub done : count ≡ t → length frames ≤ at → accepted ≡ judged_fresh mode count frames
    done e l = sym (none_left (drop at frames) (omega (arith, length-drop at frames))) ∙ at-end e

    pub left_over : count ≡ t → at < length frames → verdict WrongEnd count ≡ judged_fresh mode count frames
    left_over e l =
        ap (verdict WrongEnd) e ∙ sym (some_left (drop at frames) (omega (arith, length-drop at frames))) ∙ at-end e
