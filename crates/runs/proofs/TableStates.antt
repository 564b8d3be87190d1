-- The rows 1, 2 and 3 of the table of causes: modes, states and lengths. Assumes nothing.
use Prim.Native.Nat.{ℕ, suc, ◌+◌, ◌%◌, ◌<◌}
use mathlib.Core.Path.{◌≡◌, refl, sym, ap, ap₂, ◌∙◌}
use mathlib.Core.Logic.{◌↔◌, ◌⊎◌, inl, inr}
use mathlib.Core.Bool.{Bool, true, false, cond, ◌&&◌, ◌||◌, true≢false}
use mathlib.Core.List.{List, [], ◌∷◌, ◌++◌}
use native.Mathlib.Decide.{dec_lt}
use native.Mathlib.Omega.{arith}
use lib.Dec.{eqb, ltb}
use lib.ListN.{length, length-replicate}
use borrow.Author.Tests.{eq-eqb, eqb-true, le-ltb, lt-ltb, ltb-true}
use Rattle.bits.proofs.Tests.{and-true}
use Rattle.control.specs.Modes.{covered, modes, one_of}
use Rattle.runs.specs.declared.State.{State}
use Rattle.runs.specs.declared.Extended.TheVariants.{P3, P4}
use Rattle.runs.specs.declared.Kind.{Kind}
use Rattle.runs.specs.declared.Main.{Main}
use Rattle.runs.specs.declared.Main.TheVariants.{Plain, Mp5, Mp6}
use Rattle.runs.specs.MainChannels.{main_of, p1_len, p2_len, last_age, delay_len}
use Rattle.runs.specs.Lengths.{kind_of, frame_len, matrix_len, sender_len, pids_len, pm_len, px2_len, control_len}
use Rattle.runs.specs.Chain.{Buffer}
use Rattle.runs.specs.Causes.{Size, size, wrong}
use Rattle.runs.specs.Lent.{Lent, Memory, filled, meant, or_zeros}
use Rattle.runs.specs.Starting.{aged, memory_sizes, valid}
use Rattle.runs.specs.Sending.{lent_sizes}
use Rattle.runs.specs.TableStates.{Aged, Covered, LengthWrong, MemoryWrong, OrNothing, Valid, mp1, mp2, mp3, mp11, mp5, mp6, age-0, age-1, age-2, last, for-p3, for-p4, delay, p1, pids, p2, p3, p4, pm, px1, px2, control, memory}
use Rattle.runs.proofs.Decided.{Decides, WrongAt, decides-both, here, there, wrong-decides}

-- ---- modes and states

pub either_true : (a b : Bool) → (a || b) ≡ true → (a ≡ true) ⊎ (b ≡ true)
either_true true b e = inl refl
either_true false b e = inr e

pub covered-is : (mode : ℕ) → covered mode ≡ true → Covered mode
unfolding covered one_of modes
covered-is mode e =
    elim (either_true (eqb mode 1) _ e) [
      | inl h ↦ mp1 (eqb-true mode 1 h)
      | inr h ↦ elim (either_true (eqb mode 2) _ h) [
        | inl h ↦ mp2 (eqb-true mode 2 h)
        | inr h ↦ elim (either_true (eqb mode 3) _ h) [
          | inl h ↦ mp3 (eqb-true mode 3 h)
          | inr h ↦ elim (either_true (eqb mode 11) _ h) [
            | inl h ↦ mp11 (eqb-true mode 11 h)
            | inr h ↦ elim (either_true (eqb mode 5) _ h) [
              | inl h ↦ mp5 (eqb-true mode 5 h)
              | inr h ↦ elim (either_true (eqb mode 6) _ h) [
                | inl h ↦ mp6 (eqb-true mode 6 h)
                | inr h ↦ absurd (true≢false (sym h))
              ]
            ]
          ]
        ]
      ]
    ]

pub covered_of : {mode : ℕ} → Covered mode → covered mode ≡ true
unfolding covered one_of modes
covered_of (mp1 e) = ap covered e
covered_of (mp2 e) = ap covered e
covered_of (mp3 e) = ap covered e
covered_of (mp11 e) = ap covered e
covered_of (mp5 e) = ap covered e
covered_of (mp6 e) = ap covered e

aged-is : (k : Main) (half age : ℕ) → aged (last_age k) half age ≡ true → Aged k half age
unfolding aged
aged-is k half age = go (ltb age (last_age k)) refl
  where
    young : (k : Main) → age < last_age k → half ≡ age % 2 → Aged k half age
    young Plain l h = elim (dec_lt age 1) [ yes n ↦ age-0 (omega arith) (omega arith) | no n ↦ age-1 (omega arith) (omega arith) ]
    young Mp5 l h = elim (dec_lt age 1) [
      | yes n ↦ age-0 (omega arith) (omega arith)
      | no n ↦ elim (dec_lt age 2) [ yes j ↦ age-1 (omega arith) (omega arith) | no j ↦ age-2 refl (omega arith) (omega arith) ]
    ]
    young Mp6 l h = elim (dec_lt age 1) [
      | yes n ↦ age-0 (omega arith) (omega arith)
      | no n ↦ elim (dec_lt age 2) [ yes j ↦ age-1 (omega arith) (omega arith) | no j ↦ age-2 refl (omega arith) (omega arith) ]
    ]

    go : (b : Bool) → ltb age (last_age k) ≡ b → cond b (eqb half (age % 2)) (eqb age (last_age k) && ltb half 2) ≡ true → Aged k half age
    go true q e = young k (ltb-true age (last_age k) q) (eqb-true half (age % 2) e)
    go false q e =
        let (a, h) = and-true (eqb age (last_age k)) (ltb half 2) e in
        last (eqb-true age (last_age k) a) (ltb-true half 2 h)

aged-of : (k : Main) (half age : ℕ) → Aged k half age → aged (last_age k) half age ≡ true
unfolding aged
aged-of Plain half age (age-0 e h) = ap₂ (aged 2) h e
aged-of Mp5 half age (age-0 e h) = ap₂ (aged 3) h e
aged-of Mp6 half age (age-0 e h) = ap₂ (aged 3) h e
aged-of Plain half age (age-1 e h) = ap₂ (aged 2) h e
aged-of Mp5 half age (age-1 e h) = ap₂ (aged 3) h e
aged-of Mp6 half age (age-1 e h) = ap₂ (aged 3) h e
aged-of Plain half age (age-2 z e h) = absurd (omega arith)
aged-of Mp5 half age (age-2 z e h) = ap₂ (aged 3) h e
aged-of Mp6 half age (age-2 z e h) = ap₂ (aged 3) h e
aged-of k half age (last e h) = rw (e, le-ltb (last_age k) (last_age k) (omega arith), eq-eqb (last_age k) (last_age k) refl, lt-ltb half 2 h)

pub valid-is : (s : State) → valid s ≡ true → Valid s
unfolding valid
valid-is s e =
    let (r, n) = and-true (covered s.mode && aged (last_age (main_of s.mode)) s.half s.age) (ltb s.reserved 8) e in
    let (c, a) = and-true (covered s.mode) (aged (last_age (main_of s.mode)) s.half s.age) r in
    record { mode-covered = covered-is s.mode c; age-right = aged-is _ _ _ a; number-right = ltb-true s.reserved 8 n }

pub valid-of : (s : State) → Valid s → valid s ≡ true
unfolding valid
valid-of s h =
    rw (covered_of h.mode-covered, aged-of (main_of s.mode) s.half s.age h.age-right, lt-ltb s.reserved 8 h.number-right)

-- a number of a refusal is not 0
pub zero_one : {n : ℕ} → suc n ≡ 0 → ⊥
zero_one e = omega arith

-- what a test refutes
pub false-not : {A : Type 0} (b : Bool) → (A → b ≡ true) → b ≡ false → A → ⊥
false-not b of e a = true≢false (sym (of a) ∙ e)

-- ---- lengths

pub memory-decides : (len : Kind → ℕ) (mode : ℕ) (m : Memory) → Decides (MemoryWrong len mode m) (wrong 0 (memory_sizes len mode m))
unfolding memory_sizes
memory-decides len mode m = decides-both to from (wrong-decides (memory_sizes len mode m))
  where
    to : (k : ℕ) → WrongAt (memory_sizes len mode m) k → MemoryWrong len mode m k
    to k (here n) = for-p3 n
    to k (there (here n)) = for-p4 n
    to k (there (there (here n))) = delay n
    to _ (there (there (there {i = i} x15))) = elim x15 [ ]

    from : (k : ℕ) → MemoryWrong len mode m k → WrongAt (memory_sizes len mode m) k
    from k (for-p3 n) = here n
    from k (for-p4 n) = there (here n)
    from k (delay n) = there (there (here n))

-- the lengths a3 and a4 stand for those of P3 and P4
module _ (Right : ℕ → ℕ → Type 0) (len : Kind → ℕ) (mode : ℕ) (m : Memory) (l : Lent) (a3 a4 : ℕ)
    (r3 : a3 ≡ frame_len (kind_of mode P3) ↔ Right (length l.frames.p3) (frame_len (kind_of mode P3)))
    (r4 : a4 ≡ frame_len (kind_of mode P4) ↔ Right (length l.frames.p4) (frame_len (kind_of mode P4))) where
  abbrev sizes : List Size
  sizes =
      size (length l.frames.p1) (p1_len (main_of mode))
      ∷ size (length l.frames.pids) pids_len
      ∷ size (length l.frames.p2) (p2_len (main_of mode))
      ∷ size a3 (frame_len (kind_of mode P3))
      ∷ size a4 (frame_len (kind_of mode P4))
      ∷ size (length l.signal.matrices.pm) pm_len
      ∷ size (length l.signal.matrices.px1) (matrix_len (kind_of mode P3))
      ∷ size (length l.signal.matrices.px2) (px2_len mode)
      ∷ size (length l.signal.control) control_len
      ∷ size (length m.for3) (len (kind_of mode P3))
      ∷ size (length m.for4) (len (kind_of mode P4))
      ∷ size (length m.delayed) (delay_len (main_of mode))
      ∷ []

  pub sizes-decide : Decides (LengthWrong Right len mode m l) (wrong 0 sizes)
  sizes-decide = decides-both to from (wrong-decides sizes)
    where
      to : (k : ℕ) → WrongAt sizes k → LengthWrong Right len mode m l k
      to k (here n) = p1 n
      to k (there (here n)) = pids n
      to k (there (there (here n))) = p2 n
      to k (there (there (there (here n)))) = p3 (λ r. n (r3.1 r))
      to k (there (there (there (there (here n))))) = p4 (λ r. n (r4.1 r))
      to k (there (there (there (there (there (here n)))))) = pm n
      to k (there (there (there (there (there (there (here n))))))) = px1 n
      to k (there (there (there (there (there (there (there (here n)))))))) = px2 n
      to k (there (there (there (there (there (there (there (there (here n))))))))) = control n
      to k (there (there (there (there (there (there (there (there (there (here n)))))))))) = memory 0 (for-p3 n)
      to k (there (there (there (there (there (there (there (there (there (there (here n))))))))))) = memory 1 (for-p4 n)
      to k (there (there (there (there (there (there (there (there (there (there (there (here n)))))))))))) = memory 2 (delay n)
      to _ (there (there (there (there (there (there (there (there (there (there (there (there {i = i} x60)))))))))))) = elim x60 [ ]

      held : (k : ℕ) → MemoryWrong len mode m k → WrongAt sizes (9 + k)
      held k (for-p3 n) = there (there (there (there (there (there (there (there (there (here n)))))))))
      held k (for-p4 n) = there (there (there (there (there (there (there (there (there (there (here n))))))))))
      held k (delay n) = there (there (there (there (there (there (there (there (there (there (there (here n)))))))))))

      from : (k : ℕ) → LengthWrong Right len mode m l k → WrongAt sizes k
      from k (p1 n) = here n
      from k (pids n) = there (here n)
      from k (p2 n) = there (there (here n))
      from k (p3 n) = there (there (there (here (λ e. n (r3.0 e)))))
      from k (p4 n) = there (there (there (there (here (λ e. n (r4.0 e))))))
      from k (pm n) = there (there (there (there (there (here n)))))
      from k (px1 n) = there (there (there (there (there (there (here n))))))
      from k (px2 n) = there (there (there (there (there (there (there (here n)))))))
      from k (control n) = there (there (there (there (there (there (there (there (here n))))))))
      from k (memory j w) = held j w

-- S-5: nothing is right too
or_nothing : (n : ℕ) (b : Buffer) → length (or_zeros n b) ≡ n ↔ OrNothing (length b) n
or_nothing n [] = ((λ e. inr refl), (λ r. length-replicate {A = ℕ} n 0))
or_nothing n (x ∷ b) = ((λ e. inl e), (λ r. elim r [ inl e ↦ e | inr e ↦ absurd (omega arith) ]))

pub send-lengths : (mode : ℕ) (m : Memory) (l : Lent)
    → Decides (LengthWrong OrNothing sender_len mode m l) (wrong 0 (lent_sizes mode (meant mode l) ++ memory_sizes sender_len mode m))
unfolding lent_sizes memory_sizes filled
send-lengths mode m l = sizes-decide OrNothing sender_len mode m l _ _ (or_nothing _ l.frames.p3) (or_nothing _ l.frames.p4)
