-- A start that succeeded, the states of a run, and the definition of what is sent from any L1 frame on. Assumes nothing.
use Prim.Native.Nat.{ℕ, zero, suc, ◌+◌, ◌%◌, ◌≤◌, ◌<◌, min}
use mathlib.Core.Path.{◌≡◌, refl, sym, ap, ap₂, ◌∙◌}
use mathlib.Core.Bool.{Bool, true, false, not}
use mathlib.Core.Option.{Option, none, some}
use mathlib.Core.List.{[], ◌∷◌}
use native.Mathlib.Nat.{add-zero, add-suc, zero-add, suc-add}
use native.Mathlib.Omega.{arith}
use native.Mathlib.Decide.{dec_lt}
use lib.Dec.{ltb}
use borrow.Author.Tests.{eq-eqb, le-ltb, lt-ltb}
use Rattle.control.specs.Modes.{covered}
use Rattle.runs.specs.declared.Answer.{Answer}
use Rattle.runs.specs.declared.Answer.TheVariants.{ModeNotCovered, WrongLength}
use Rattle.runs.specs.declared.Kind.{Kind}
use Rattle.runs.specs.declared.Main.{Main}
use Rattle.runs.specs.declared.Main.TheVariants.{Plain, Mp5, Mp6}
use Rattle.runs.specs.MainChannels.{main_of, delay_frames, last_age}
use Rattle.runs.specs.Lengths.{sender_len}
use Rattle.runs.specs.Lent.{Frames, Signal, Memory, signal_of, memory_next}
use Rattle.runs.specs.Answers.{number_of, on_success}
use Rattle.runs.specs.Causes.{at, judge, when, wrong}
use Rattle.runs.specs.Starting.{Started, aged, valid, next, fresh, state_at, memory_sizes, zeros, start_answer, started, start}
use Rattle.runs.specs.Defined.{memory_before, defined}

-- ---- a start that succeeded

pub start-ok : (len : Kind → ℕ) (mode : ℕ) (m : Memory) → number_of (start len mode m).answer ≡ 0
    → (covered mode ≡ true) × (start len mode m ≡ started len mode)
unfolding start start_answer judge on_success
start-ok len mode m = go (covered mode) (wrong 0 (memory_sizes len mode m))
  where
    answer : Bool → Option ℕ → Answer
    answer b o = judge (when (not b) ModeNotCovered ∷ at WrongLength o ∷ [])

    gives : Answer → Started
    gives a = on_success a (started len mode) (record { answer = a; state = fresh 1; memory = m })

    go : (b : Bool) (o : Option ℕ) → number_of (gives (answer b o)).answer ≡ 0 → (b ≡ true) × (gives (answer b o) ≡ started len mode)
    go true none e = (refl, refl)
    go true (some k) e = absurd (omega arith)
    go false o e = absurd (omega arith)

-- ---- states

pub two-le : (k : Main) → 2 ≤ last_age k
two-le Plain = omega arith
two-le Mp5 = omega arith
two-le Mp6 = omega arith

pub delay-le : (k : Main) → delay_frames k ≤ last_age k
delay-le Plain = omega arith
delay-le Mp5 = omega arith
delay-le Mp6 = omega arith

-- from the third L1 frame on, and from the one on whose P1 frames' second path has come
pub old : (k : Main) (t : ℕ) → ltb (min (last_age k) (suc (suc t))) 2 ≡ false
old k t = le-ltb (min (last_age k) (suc (suc t))) 2 (omega (arith, two-le k))

pub late : (k : Main) (t : ℕ) → delay_frames k ≤ t → ltb (min (last_age k) t) (delay_frames k) ≡ false
late k t h = le-ltb (min (last_age k) t) (delay_frames k) (omega (arith, delay-le k))

pub aged-at : (last t : ℕ) → aged last (t % 2) (min last t) ≡ true
unfolding aged
aged-at last t =
    elim (dec_lt t last) [
      | yes h ↦ let e : min last t ≡ t = omega arith in rw (e, lt-ltb t last h, eq-eqb (t % 2) (t % 2) refl)
      | no h ↦
          let e : min last t ≡ last = omega arith in
          rw (e, le-ltb last last (omega arith), eq-eqb last last refl, lt-ltb (t % 2) 2 (omega arith))
    ]

pub valid-at : (mode : ℕ) → covered mode ≡ true → (z : ℕ) → z < 8 → (t : ℕ) → valid (state_at mode z t) ≡ true
unfolding valid
valid-at mode cov z h t = rw (cov, aged-at (last_age (main_of mode)) t, lt-ltb z 8 h)

pub fresh_at : (mode : ℕ) → state_at mode 0 0 ≡ fresh mode
fresh_at mode = λ i. record { mode = mode; half = 0; age = none_yet i; reserved = 0 }
  where
    none_yet : min (last_age (main_of mode)) 0 ≡ 0
    none_yet = omega arith

-- after an L1 frame of the number w
pub next-at : (mode z w t : ℕ) → next w (state_at mode z t) ≡ state_at mode w (suc t)
unfolding next
next-at mode z w t = λ i. record { mode = mode; half = halves i; age = ages i; reserved = w }
  where
    halves : (t % 2 + 1) % 2 ≡ suc t % 2
    halves = omega arith

    ages : min (last_age (main_of mode)) (min (last_age (main_of mode)) t + 1) ≡ min (last_age (main_of mode)) (suc t)
    ages = omega arith

-- ---- the definition of what is sent, from L1 frame T on with the memory m there

unfoldable pub memory_from : ℕ → ℕ → Memory → (ℕ → Frames) → ℕ → Memory
memory_from mode T m F zero = m
memory_from mode T m F (suc t) = memory_next mode ((T + t) % 2) (memory_from mode T m F t) (F t)

unfoldable pub defined_from : ℕ → ℕ → Memory → (ℕ → Frames) → ℕ → Signal
defined_from mode T m F t = signal_of mode ((T + t) % 2) (memory_from mode T m F t) (F t)

pub memory-shift : (mode T : ℕ) (m : Memory) (F : ℕ → Frames) (t : ℕ)
    → memory_from mode T m F (suc t) ≡ memory_from mode (suc T) (memory_next mode (T % 2) m (F 0)) (λ k. F (suc k)) t
unfolding memory_from
memory-shift mode T m F zero = ap (λ (k : ℕ). memory_next mode (k % 2) m (F 0)) (add-zero T)
memory-shift mode T m F (suc t) =
    ap₂ (λ (k : ℕ) (x : Memory). memory_next mode (k % 2) x (F (suc t))) (add-suc T t ∙ sym (suc-add T t)) (memory-shift mode T m F t)

pub defined-shift : (mode T : ℕ) (m : Memory) (F : ℕ → Frames) (t : ℕ)
    → defined_from mode T m F (suc t) ≡ defined_from mode (suc T) (memory_next mode (T % 2) m (F 0)) (λ k. F (suc k)) t
unfolding defined_from
defined-shift mode T m F t =
    ap₂ (λ (k : ℕ) (x : Memory). signal_of mode (k % 2) x (F (suc t))) (add-suc T t ∙ sym (suc-add T t)) (memory-shift mode T m F t)

pub memory_start : (mode : ℕ) (F : ℕ → Frames) (t : ℕ)
    → memory_from mode 0 (zeros sender_len mode) F t ≡ memory_before mode F t
unfolding memory_from memory_before
memory_start mode F zero = refl
memory_start mode F (suc t) =
    ap₂ (λ (k : ℕ) (x : Memory). memory_next mode (k % 2) x (F t)) (zero-add t) (memory_start mode F t)

pub defined-start : (mode : ℕ) (F : ℕ → Frames) (t : ℕ)
    → defined_from mode 0 (zeros sender_len mode) F t ≡ defined mode F t
unfolding defined_from defined
defined-start mode F t = ap₂ (λ (k : ℕ) (x : Memory). signal_of mode (k % 2) x (F t)) (zero-add t) (memory_start mode F t)
