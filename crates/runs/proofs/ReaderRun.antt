-- A run of a reader, call by call: refused calls change nothing, and each L1 frame sent is accepted. Assumes nothing.
use Prim.Native.Nat.{ℕ, zero, suc, ◌+◌, ◌<◌}
use mathlib.Core.Path.{◌≡◌, refl, sym, ap, ◌∙◌, subst}
use mathlib.Core.Logic.{◌≢◌}
use mathlib.Core.Bool.{true}
use mathlib.Core.List.{List, [], ◌∷◌, cons-ne-nil}
use native.Mathlib.Nat.{add-zero, add-suc, suc-add, not-suc-le-zero, le_of_suc-le-suc}
use native.Mathlib.Omega.{arith}
use lib.ListN.{length, get_or}
use Rattle.control.specs.Modes.{covered}
use Rattle.control.specs.Departs.{number_in}
use Rattle.control.proofs.Covered.{covered-lt}
use Rattle.control.proofs.Numbers.{number-sent}
use Rattle.runs.specs.declared.State.{State}
use Rattle.runs.specs.Answers.{number_of}
use Rattle.runs.specs.Lent.{Frames, Signal, Lent, Result, signal_of}
use Rattle.runs.specs.Starting.{state_at, next}
use Rattle.runs.specs.Reading.{read_step, received}
use Rattle.runs.specs.Runs.{Call, calls, Fitting}
use Rattle.runs.specs.Defined.{defined, number_before, table}
use Rattle.runs.specs.Handed.{Given, Handed, done, other, given}
use Rattle.runs.specs.WholeRuns.{Returned, no_call}
use Rattle.runs.proofs.Lists.{cons-both}
use Rattle.runs.proofs.States.{next-at}
use Rattle.runs.proofs.Memory.{read-refused, read_memory}
use Rattle.runs.proofs.Reader.{read-given, read-gives}
use Rattle.runs.proofs.Cases.{each_number}

module _ (mode : ℕ) (cov : covered mode ≡ true) (F : ℕ → Frames) (n : ℕ)
    (right : (t : ℕ) → t < n → Fitting mode (F t)) where
  abbrev S : ℕ → Signal
  S t = defined mode F t

  abbrev state : ℕ → State
  state t = state_at mode (number_before F t) t

  pub record Got (T k : ℕ) (gs : List Call) : Type 0 where
    pub as_many : length gs ≡ k
    pub each : (i : ℕ) → i < k → Returned mode F (T + i) (get_or gs i no_call).lent.frames (get_or gs i no_call).result

  got-cons : (T k : ℕ) (g : Call) (gs : List Call) → Returned mode F T g.lent.frames g.result → Got (suc T) k gs → Got T (suc k) (g ∷ gs)
  got-cons T k g gs r ih =
      record {
        as_many = ap suc ih.as_many;
        each = each_number _ (λ h. rw (add-zero T) r) (λ j. λ h. rw (add-suc T j, ← suc-add T j) (ih.each j (le_of_suc-le-suc h)));
      }

  -- the number read is the one sent
  state-next : (T : ℕ) → T < n → next (number_in mode (S T).control) (state T) ≡ state (suc T)
  unfolding defined signal_of number_before
  state-next T h =
      next-at mode (number_before F T) _ T
      ∙ ap (λ (z : ℕ). state_at mode z (suc T)) (number-sent mode (F T).reserved (covered-lt mode cov) (right T h).reserved-right)

  other_step : (T : ℕ) (l : Lent) (ls : List Lent) (c : Call) (cs : List Call)
      → c ∷ cs ≡ calls read_step (state T) (read_memory mode S T) (l ∷ ls) → number_of c.result.answer ≢ 0
      → cs ≡ calls read_step (state T) (read_memory mode S T) ls
  unfolding calls
  other_step T l ls c cs e ne =
      let (e₁, e₂) = cons-both c _ cs _ e in
      let same = read-refused (state T) (read_memory mode S T) l (λ z. ne (ap (λ (x : Call). number_of x.result.answer) e₁ ∙ z)) in
      e₂ ∙ ap (λ (r : Result). calls read_step r.state r.memory ls) same

  given-step : (T : ℕ) → T < n → (x : Signal) → x ≡ S T → (l : Lent) (ls : List Lent) (c : Call) (cs : List Call)
      → c ∷ cs ≡ calls read_step (state T) (read_memory mode S T) (l ∷ ls) → Given mode x c.lent
      → Returned mode F T c.lent.frames c.result × (cs ≡ calls read_step (state (suc T)) (read_memory mode S (suc T)) ls)
  unfolding calls received read_memory
  given-step T h x q l ls c cs e g = (
    rw (ap (λ (y : Call). y.result) e₁ ∙ done-is, ap (λ (y : Call). y.lent.frames) e₁) (read-gives mode cov F n right T h l.frames),
    (cons-both c _ cs _ e).1 ∙ ap (λ (r : Result). calls read_step r.state r.memory ls) done-is
        ∙ ap (λ (r : State). calls read_step r (read_memory mode S (suc T)) ls) (state-next T h),
  )
    where
      e₁ : c ≡ record { lent = l; result = read_step (state T) (read_memory mode S T) l }
      e₁ = (cons-both c _ cs _ e).0

      mine : Given mode (S T) l
      mine = subst (λ (y : Signal). Given mode y l) q (subst (λ (y : Call). Given mode x y.lent) e₁ g)

      done-is : read_step (state T) (read_memory mode S T) l
          ≡ received (state T) (read_memory mode S T) (record { frames = l.frames; signal = S T })
      done-is = read-given mode cov F n right T h l mine

  pub read-run : {xs : List Signal} {cs gs : List Call} → Handed mode xs cs gs
      → (k T : ℕ) → T + k ≡ n → xs ≡ table T k S
      → (ls : List Lent) → cs ≡ calls read_step (state T) (read_memory mode S T) ls → Got T k gs
  unfolding table calls
  read-run done zero T e q ls c = record { as_many = refl; each = λ i h. absurd (not-suc-le-zero h) }
  read-run done (suc k) T e q ls c = absurd (cons-ne-nil _ _ (sym q))
  read-run (other {c = c₁} {cs = cs} ne h) k T e q [] c = absurd (cons-ne-nil c₁ cs c)
  read-run (other {c = c₁} {cs = cs} ne h) k T e q (l ∷ ls) c = read-run h k T e q ls (other_step T l ls c₁ cs c ne)
  read-run (given g h) zero T e q ls c = absurd (cons-ne-nil _ _ q)
  read-run (given g h) (suc k) T e q [] c = absurd (cons-ne-nil _ _ c)
  read-run (given {x = x} {xs = xs} {c = c₁} {cs = cs} g h) (suc k) T e q (l ∷ ls) c =
      let (q₁, q₂) = cons-both x _ xs _ q in
      let (r, c₂) = given-step T (omega arith) x q₁ l ls c₁ cs c g in
      got-cons T k c₁ _ r (read-run h k (suc T) (omega arith) q₂ ls c₂)
