-- A dump whose first L1 frames a reader's run was handed and accepted: its verdict is that on what is left. Assumes nothing.
use Prim.Native.Nat.{ℕ, suc, ◌+◌}
use mathlib.Core.Path.{◌≡◌, sym, ap, ap₂, ◌∙◌, subst}
use mathlib.Core.Bool.{true}
use mathlib.Core.List.{List, [], ◌∷◌, ◌++◌, append_assoc, cons-ne-nil}
use native.Mathlib.Nat.{add-zero, add-suc, suc-add, zero-add}
use native.Mathlib.Omega.{arith}
use lib.ListN.{length}
use borrow.Author.Tests.{le-ltb}
use Rattle.bits.specs.Tests.{same}
use Rattle.control.specs.Modes.{covered}
use Rattle.runs.specs.declared.State.{State}
use Rattle.runs.specs.Answers.{number_of}
use Rattle.runs.specs.Causes.{judge}
use Rattle.runs.specs.Handed.{Given, Handed, done, given, other}
use Rattle.runs.specs.Lengths.{reader_len}
use Rattle.runs.specs.Lent.{Lent, Memory, Signal}
use Rattle.runs.specs.Reading.{read_step}
use Rattle.runs.specs.Runs.{Call, Every, calls, readings}
use Rattle.runs.specs.Starting.{Started, start}
use Rattle.runs.proofs.States.{start-ok}
use Rattle.layout.specs.Layout.{body, bytes_of, header, mark}
use Rattle.layout.specs.Heads.{head_answer}
use Rattle.layout.proofs.Laid.{Sized, sized_of}
use Rattle.layout.proofs.Heads.{whole_word}
use Rattle.dumps.specs.Judged.{judged, judged_frames, judged_fresh}
use Rattle.dumps.specs.Refused.{Accepts, laid}
use Rattle.dumps.proofs.Taken.{taken-head}
use Rattle.dumps.proofs.Handing.{Alike, Ok, OkCall, alike, fresh-of, given-step, handing, one-frame, other_step}

-- ---- L1 frames that a reader's run was handed and accepted: the verdict is that on what is left, from where its calls stand then

module _ (mode : ℕ) where
  pub record On (xs : List Signal) (after : List Call) (t : ℕ) (s : State) (m : Memory) : Type 0 where
    pub then-state : State
    pub then-memory : Memory
    pub then-lents : List Lent
    pub mode-is : then-state.mode ≡ mode
    pub calls_are : after ≡ calls read_step then-state then-memory then-lents
    pub on : (j : ℕ) (left : List ℕ)
        → judged_frames mode (length xs + j) t s m (body xs ++ left) ≡ judged_frames mode j (t + length xs) then-state then-memory left

  on_none : (after : List Call) (t : ℕ) (s : State) (m : Memory) → s.mode ≡ mode → (ls : List Lent) → after ≡ calls read_step s m ls → On [] after t s m
  unfolding body
  on_none after t s m em ls q =
      record {
        then-state = s;
        then-memory = m;
        then-lents = ls;
        mode-is = em;
        calls_are = q;
        on = λ j left. ap₂ (λ (a b : ℕ). judged_frames mode a b s m left) (zero-add j) (sym (add-zero t));
      }

  on-cons : (x : Signal) (xs : List Signal) (after : List Call) (t : ℕ) (s : State) (m : Memory) (l : Lent) → s.mode ≡ mode → Given mode x l → Ok (read_step s m l)
      → ((read_step s m l).state.mode ≡ mode → On xs after (suc t) (read_step s m l).state (read_step s m l).memory) → On (x ∷ xs) after t s m
  unfolding body
  on-cons x xs after t s m l em g ok ih =
      record {
        then-state = o.then-state;
        then-memory = o.then-memory;
        then-lents = o.then-lents;
        mode-is = o.mode-is;
        calls_are = o.calls_are;
        on = λ j left.
            ap₂ (λ (a : ℕ) (b : List ℕ). judged_frames mode a t s m b) (suc-add (length xs) j) (append_assoc (bytes_of x) (body xs) left)
            ∙ one-frame mode x (body xs ++ left) right (length xs + j) t s m like.ok
            ∙ ap₂ (λ (r : State) (n : Memory). judged_frames mode (length xs + j) (suc t) r n (body xs ++ left)) like.state-is like.memory-is
            ∙ o.on j left
            ∙ ap (λ (k : ℕ). judged_frames mode j k o.then-state o.then-memory left) (suc-add t (length xs) ∙ sym (add-suc t (length xs)));
      }
    where
      like : Alike s m l (read_step s m (handing mode x))
      like = subst (λ (y : Signal). Alike s m l (read_step s m (handing mode y))) g.same (alike mode s m l em g.lengths ok)

      right : Sized mode x
      right = subst (λ (y : Signal). Sized mode y) g.same (sized_of mode l g.lengths)

      o : On xs after (suc t) (read_step s m l).state (read_step s m l).memory
      o = ih (like.mode-is ∙ em)

  handed-on : {xs : List Signal} {cs gs : List Call} → Handed mode xs cs gs → Every OkCall gs → (after : List Call)
      → (t : ℕ) (s : State) (m : Memory) → s.mode ≡ mode → (ls : List Lent) → cs ++ after ≡ calls read_step s m ls → On xs after t s m
  unfolding calls
  handed-on done oks after t s m em ls q = on_none after t s m em ls q
  handed-on (other {c = c₁} {cs = cs} ne h) oks after t s m em [] q = absurd (cons-ne-nil c₁ (cs ++ after) q)
  handed-on (other {c = c₁} {cs = cs} ne h) oks after t s m em (l ∷ ls) q = handed-on h oks after t s m em ls (other_step mode s m l ls c₁ (cs ++ after) q ne)
  handed-on (given {c = c₁} {cs = cs} g h) oks after t s m em [] q = absurd (cons-ne-nil c₁ (cs ++ after) q)
  handed-on (given {x = x} {xs = xs} {c = c₁} {cs = cs} g h) oks after t s m em (l ∷ ls) q =
      let (g', ok, q') = given-step mode s m x l ls c₁ (cs ++ after) q g oks.0 in
      on-cons x xs after t s m l em g' ok
      (λ e. handed-on h oks.1 after (suc t) (read_step s m l).state (read_step s m l).memory e ls q')

-- ---- a header that is not refused

head-laid : (mode count : ℕ) (bytes : List ℕ) → covered mode ≡ true → number_of (head_answer (header mode count ++ bytes)) ≡ 0
unfolding head_answer judge header mark same
head-laid mode count bytes cov = rw (le-ltb (length (header mode count ++ bytes)) 8 (omega arith), cov)

laid-judged : (mode count : ℕ) (bytes : List ℕ) → covered mode ≡ true → judged (header mode count ++ bytes) ≡ judged_fresh mode count bytes
unfolding header mark
laid-judged mode count bytes cov =
    sym (taken-head (header mode count ++ bytes) (head-laid mode count bytes cov)) ∙ ap (λ (n : ℕ). judged_fresh mode n bytes) (whole_word count)

module _ (mode count : ℕ) (xs : List Signal) (after : List Call) (a : Accepts mode xs after) where
  abbrev begun : Started
  begun = start reader_len mode a.run.upon

  pub stands : On mode xs after 0 begun.state begun.memory
  unfolding readings
  stands =
      handed-on mode a.handed a.each after 0 begun.state begun.memory
      (ap (λ (b : Started). b.state.mode) (start-ok reader_len mode a.run.upon a.run.started).1) a.run.lents (sym a.split)

  -- the verdict on what is left after xs
  pub left-judged : (j : ℕ) (left : List ℕ) → count ≡ length xs + j
      → judged (laid mode count xs left) ≡ judged_frames mode j (length xs) stands.then-state stands.then-memory left
  unfolding judged_fresh
  left-judged j left e =
      laid-judged mode count (body xs ++ left) (start-ok reader_len mode a.run.upon a.run.started).0
      ∙ ap (λ (b : Started). judged_frames mode count 0 b.state b.memory (body xs ++ left)) (fresh-of mode a.run)
      ∙ ap (λ (n : ℕ). judged_frames mode n 0 begun.state begun.memory (body xs ++ left)) e
      ∙ stands.on j left
      ∙ ap (λ (k : ℕ). judged_frames mode j k stands.then-state stands.then-memory left) (zero-add (length xs))
