-- The place of every answer of a start, a sending or a reading is below 2^24, so that it fits a field of a word. Assumes nothing.
use Prim.Native.Nat.{ℕ, suc, ◌+◌, ◌^◌, ◌<◌, ◌≤◌}
use mathlib.Core.Path.{◌≡◌, refl}
use mathlib.Core.Bool.{Bool, true, false, cond, not}
use mathlib.Core.Option.{Option, none, some}
use mathlib.Core.List.{List, [], ◌∷◌, ◌++◌}
use native.Mathlib.Omega.{arith}
use lib.Dec.{eqb, ltb}
use lib.ListN.{length}
use borrow.Author.Tests.{ltb-true}
use Rattle.bits.specs.Tests.{lowest}
use Rattle.control.specs.Departs.{strays}
use Rattle.control.specs.Modes.{covered}
use Rattle.runs.specs.declared.Answer.{Answer}
use Rattle.runs.specs.declared.Answer.TheVariants.{ModeNotCovered, StateNotValid, WrongLength, WrongControl, MainNotCoded, PidsNotCoded, FillNotZero, ExtendedNotCoded, ReservedTooHigh}
use Rattle.runs.specs.declared.Extended.TheVariants.{P3, P4}
use Rattle.runs.specs.declared.Kind.{Kind}
use Rattle.runs.specs.declared.State.{State}
use Rattle.runs.specs.Answers.{place_of}
use Rattle.runs.specs.Causes.{Size, size, at, first, judge, when, wrong}
use Rattle.runs.specs.MainChannels.{main_of}
use Rattle.runs.specs.Chain.{pids_bad}
use Rattle.runs.specs.Lengths.{kind_of, reader_len, sender_len}
use Rattle.runs.specs.Lent.{Lent, Matrices, Memory, Result, meant}
use Rattle.runs.specs.Judged.{counted_first, fill_place, frame_place, main_place}
use Rattle.runs.specs.Reading.{pushed, read_answer, read_step, received}
use Rattle.runs.specs.Sending.{lent_sizes, send_answer, send_step, sent}
use Rattle.runs.specs.Starting.{Started, memory_sizes, start, start_answer, started, valid}
use Rattle.runs.proofs.Answered.{on_both}
use Rattle.runs.proofs.Bounds.{counted-le, matrix-le, p1-frames-le, second-le}

-- ---- the causes of a list, each not met or met at a place that fits

data Below : Option ℕ → Type 0 where
  nowhere : Below none
  there : (k : ℕ) → k < 2 ^ 24 → Below (some k)

pub data Small : Option Answer → Type 0 where
  not-met : Small none
  met : (answer : Answer) → place_of answer < 2 ^ 24 → Small (some answer)

pub data All : List (Option Answer) → Type 0 where
  end : All []
  and : {cause : Option Answer} {rest : List (Option Answer)} → Small cause → All rest → All (cause ∷ rest)

pub judged : {causes : List (Option Answer)} → All causes → place_of (judge causes) < 2 ^ 24
unfolding judge
judged end = omega arith
judged (and not-met rest) = judged rest
judged (and (met answer h) rest) = h

pub small-when : (t : Bool) (answer : Answer) → place_of answer ≡ 0 → Small (when t answer)
small-when true answer e = met answer (omega arith)
small-when false answer e = not-met

small_at : (answer : ℕ → Answer) → ((k : ℕ) → place_of (answer k) ≡ k) → {o : Option ℕ} → Below o → Small (at answer o)
small_at answer e nowhere = not-met
small_at answer e (there k h) = met (answer k) (omega (arith, e k))

below-cond : (t : Bool) {o o' : Option ℕ} → Below o → Below o' → Below (cond t o o')
below-cond true h l = h
below-cond false h l = l

below-first : (n : ℕ) (bad : ℕ → Bool) → n ≤ 2 ^ 24 → Below (first n bad)
unfolding first
below-first n bad l = go (ltb (lowest n bad) n) refl
  where
    go : (t : Bool) → ltb (lowest n bad) n ≡ t → Below (cond t (some (lowest n bad)) none)
    go true e = there (lowest n bad) (omega (arith, ltb-true (lowest n bad) n e))
    go false e = nowhere

below-wrong : (k : ℕ) (sizes : List Size) → k + length sizes < 2 ^ 24 → Below (wrong k sizes)
unfolding wrong
below-wrong k [] h = nowhere
below-wrong k (size have want ∷ rest) h = below-cond (eqb have want) (below-wrong (suc k) rest (omega arith)) (there k (omega arith))

-- counted on from the cells of PM
small-counted : (b n : ℕ) (bad : ℕ → Bool) → b ≤ 368640 → n ≤ 300000 → Small (at (λ c. FillNotZero (b + c)) (first n bad))
unfolding first
small-counted b n bad h l = go (ltb (lowest n bad) n) refl
  where
    go : (t : Bool) → ltb (lowest n bad) n ≡ t → Small (at (λ c. FillNotZero (b + c)) (cond t (some (lowest n bad)) none))
    go true e = met (FillNotZero (b + lowest n bad)) (omega (arith, ltb-true (lowest n bad) n e))
    go false e = not-met

small-fill : (s : State) (x : Matrices) → Small (at (λ c. FillNotZero (counted_first (main_of s.mode) + c)) (fill_place s x))
unfolding fill_place
small-fill s x =
    small-counted _ _ _ (counted-le (main_of s.mode))
    (omega (arith, matrix-le (kind_of s.mode P3), matrix-le (kind_of s.mode P4), second-le (main_of s.mode)))

below-main : (s : State) (m : Memory) (x : Matrices) → Below (main_place s m x)
unfolding main_place
below-main s m x = below-first _ _ (omega (arith, p1-frames-le (main_of s.mode)))

below-frame : (s : State) (after : Memory) → Below (frame_place s after)
unfolding frame_place
below-frame s after = below-first 16 _ (omega arith)

-- ---- the steps: a success has place 0, a refusal that of its answer

pub small-lengths : (sizes : List Size) → length sizes < 2 ^ 24 → Small (at WrongLength (wrong 0 sizes))
small-lengths sizes h = small_at WrongLength (λ k. refl) (below-wrong 0 sizes (omega arith))

pub start-place : (len : Kind → ℕ) (mode : ℕ) (m : Memory) → place_of (start len mode m).answer < 2 ^ 24
unfolding start start_answer memory_sizes
start-place len mode m =
    on_both (λ (g : Started). place_of g.answer < 2 ^ 24) _ (started len mode) _ (omega arith)
    (judged (and (small-when (not (covered mode)) ModeNotCovered refl)
    (and (small-lengths (memory_sizes len mode m) (omega arith)) end)))

pub send-place : (s : State) (m : Memory) (l : Lent) → place_of (send_step s m l).answer < 2 ^ 24
unfolding send_step send_answer sent lent_sizes memory_sizes
send-place s m l =
    on_both (λ (g : Result). place_of g.answer < 2 ^ 24) _ (sent s m l) _ (omega arith)
    (judged (and (small-when (not (valid s)) StateNotValid refl)
    (and (small-when (not (ltb l.frames.reserved 8)) ReservedTooHigh refl)
    (and (small-lengths (lent_sizes s.mode (meant s.mode l) ++ memory_sizes sender_len s.mode m) (omega arith)) end))))

pub read-place : (s : State) (m : Memory) (l : Lent) → place_of (read_step s m l).answer < 2 ^ 24
unfolding read_step read_answer received lent_sizes memory_sizes
read-place s m l =
    let x = l.signal.matrices in
    on_both (λ (g : Result). place_of g.answer < 2 ^ 24) _ (received s m l) _ (omega arith)
    (judged (and (small-when (not (valid s)) StateNotValid refl)
    (and (small-lengths (lent_sizes s.mode l ++ memory_sizes reader_len s.mode m) (omega arith))
    (and (small_at WrongControl (λ k. refl) (below-first 16 (strays s.mode l.signal.control) (omega arith)))
    (and (small_at MainNotCoded (λ k. refl) (below-main s m x))
    (and (small_at PidsNotCoded (λ k. refl) (below-first 16 (pids_bad x.pm) (omega arith)))
    (and (small-fill s x)
    (and (small_at ExtendedNotCoded (λ k. refl) (below-cond (ltb s.age 2) nowhere (below-frame s (pushed s.mode m x)))) end))))))))
