-- How great a verdict's frame number and place can be. Assumes nothing.
use Prim.Native.Nat.{ℕ, zero, suc, ◌+◌, ◌<◌}
use mathlib.Core.Path.{◌≡◌, refl, sym, subst}
use mathlib.Core.Bool.{Bool, true, false}
use mathlib.Core.List.{List, [], ◌∷◌}
use native.Mathlib.Omega.{arith}
use lib.Dec.{eqb, ltb}
use lib.ListN.{length, get_or, take, drop}
use borrow.Author.Tests.{eqb-false, eqb-true, ltb-false, ltb-true}
use Rattle.bits.specs.Bits.{Bytes}
use Rattle.runs.specs.declared.State.{State}
use Rattle.runs.specs.Answers.{number_of, place_of}
use Rattle.runs.specs.Lent.{Lent, Memory, Result}
use Rattle.runs.specs.Reading.{read_step}
use Rattle.layout.specs.Layout.{frame_bytes, word}
use Rattle.layout.specs.Heads.{head_answer}
use Rattle.layout.proofs.Heads.{head-place}
use Rattle.frames.specs.Read.{read_frame}
use Rattle.dumps.specs.declared.Verdict.{Verdict}
use Rattle.dumps.specs.Judged.{judged, judged_frames, judged_fresh}
use Rattle.dumps.proofs.Steps.{goes_on, refused-is, short-is}
use Rattle.dumps.proofs.Taken.{refused-head, taken-head}

-- below these
pub record Small (frames places : ℕ) (v : Verdict) : Type 0 where
  pub frame-lt : v.frame < frames
  pub place-lt : place_of v.answer < places

module _ (places : ℕ) (some : 0 < places) (each : (s : State) (m : Memory) (l : Lent) → place_of (read_step s m l).answer < places) where
  small-read : (mode : ℕ) (s : State) (m : Memory) (bytes : List ℕ) → place_of (read_frame mode s m bytes).answer < places
  unfolding read_frame
  small-read mode s m bytes = each s m _

  small-none : (mode frames t : ℕ) (s : State) (m : Memory) (bytes : List ℕ) → t < frames → Small frames places (judged_frames mode 0 t s m bytes)
  unfolding judged_frames
  small-none mode frames t s m [] h = record { frame-lt = omega arith; place-lt = some }
  small-none mode frames t s m (b ∷ bytes) h = record { frame-lt = h; place-lt = some }

  small-frames : (mode frames n t : ℕ) (s : State) (m : Memory) (bytes : List ℕ) → t + n < frames → Small frames places (judged_frames mode n t s m bytes)
  small-frames mode frames zero t s m bytes h = small-none mode frames t s m bytes (omega arith)
  small-frames mode frames (suc n) t s m bytes h =
      go (ltb (length bytes) (frame_bytes mode)) (eqb (number_of g.answer) 0) refl refl
      (small-frames mode frames n (suc t) g.state g.memory (drop (frame_bytes mode) bytes) (omega arith))
    where
      g : Result
      g = read_frame mode s m (take (frame_bytes mode) bytes)

      go : (a b : Bool) → ltb (length bytes) (frame_bytes mode) ≡ a → eqb (number_of g.answer) 0 ≡ b
          → Small frames places (judged_frames mode n (suc t) g.state g.memory (drop (frame_bytes mode) bytes))
          → Small frames places (judged_frames mode (suc n) t s m bytes)
      go true b ea eb later =
          subst (Small frames places) (sym (short-is mode n t s m bytes (ltb-true _ _ ea))) (record { frame-lt = omega arith; place-lt = some })
      go false true ea eb later =
          subst (Small frames places) (sym (goes_on mode n t s m bytes (ltb-false _ _ ea) (eqb-true _ _ eb))) later
      go false false ea eb later =
          subst (Small frames places) (sym (refused-is mode n t s m bytes (ltb-false _ _ ea) (eqb-false _ _ eb)))
          (record { frame-lt = omega arith; place-lt = small-read mode s m (take (frame_bytes mode) bytes) })

  small-fresh : (mode n : ℕ) (bytes : List ℕ) → n < 65536 → Small 65536 places (judged_fresh mode n bytes)
  unfolding judged_fresh
  small-fresh mode n bytes h = small-frames mode 65536 n 0 _ _ bytes (omega arith)

  -- the count has 16 bits
  pub judged-small : (d : List ℕ) → Bytes d → Small 65536 places (judged d)
  judged-small d small = go (eqb (number_of (head_answer d)) 0) refl
    where
      go : (b : Bool) → eqb (number_of (head_answer d)) 0 ≡ b → Small 65536 places (judged d)
      go true e =
          subst (Small 65536 places) (taken-head d (eqb-true _ _ e))
          (small-fresh (get_or d 5 0) (word (get_or d 6 0) (get_or d 7 0)) (drop 8 d) (omega (arith, small 6, small 7)))
      go false e =
          subst (Small 65536 places) (refused-head d (head_answer d) refl (eqb-false _ _ e))
          (record { frame-lt = omega arith; place-lt = omega (arith, head-place d) })
