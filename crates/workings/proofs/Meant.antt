-- The frames that are meant by what is lent (document 02, S-5). Assumes nothing.
use mathlib.Core.Path.{◌≡◌, refl, sym, ap, ◌∙◌}
use mathlib.Core.List.{List, [], ◌∷◌}
use Prim.Native.Nat.{ℕ, zero, suc, ◌*◌, ◌/◌, ◌≤◌, ◌<◌}
use native.Mathlib.Omega.{arith}
use borrow.Author.Tests.{lt-ltb, le-ltb, ne_eqb}
use lib.ListN.{length, replicate, take, length-replicate}
use Rattle.runs.specs.declared.Kind.{Kind}
use Rattle.runs.specs.declared.State.{State}
use Rattle.runs.specs.declared.Kind.TheVariants.{Unused, Narrow, Wide}
use Rattle.runs.specs.Lengths.{frame_bits}
use Rattle.runs.specs.Lent.{or_zeros}
use Rattle.queries.specs.FinderPX.{kind_of_number}
use Rattle.workings.specs.Shown.{frames_of, bits_of, worked_of, meant, worked}
use Rattle.workings.proofs.Sizes.{frames-extended}

or_some : (n : ℕ) (frames : List ℕ) → (length frames ≡ 0 → ⊥) → frames ≡ or_zeros n frames
or_some n [] h = absurd (h refl)
or_some n (x ∷ frames) h = refl

or-none : (n : ℕ) (frames : List ℕ) → length frames ≡ 0 → replicate n 0 ≡ or_zeros n frames
or-none n [] h = refl
or-none n (x ∷ frames) h = absurd (omega arith)

few : (k : Kind) → frame_bits k ≤ 4608
few Unused = omega arith
few Narrow = omega arith
few Wide = omega arith

module _ (mode channel : ℕ) where
  pub meant-main : (frames : List ℕ) → channel < 3 → frames ≡ meant mode channel frames
  unfolding meant
  meant-main frames l = rw (lt-ltb channel 3 l)

  module _ (h : 3 ≤ channel) where
    pub bits-few : bits_of mode channel ≤ 4608
    unfolding bits_of
    bits-few = rw (ne_eqb channel 1 (λ e. omega arith), ne_eqb channel 2 (λ e. omega arith)) (few (kind_of_number mode channel))

    bytes : frames_of channel * bits_of mode channel / 8 ≡ bits_of mode channel
    bytes = rw (← frames-extended channel (λ e. omega arith) (λ e. omega arith)) (omega arith)

    pub meant-some : (frames : List ℕ) → (length frames ≡ 0 → ⊥) → frames ≡ meant mode channel frames
    unfolding meant
    meant-some frames ne = rw (le-ltb channel 3 h) (or_some _ frames ne)

    pub meant-none : (frames : List ℕ) → length frames ≡ 0 → (n : ℕ) → n ≡ bits_of mode channel → replicate n 0 ≡ meant mode channel frames
    unfolding meant
    meant-none frames e n n-is = rw (le-ltb channel 3 h, bytes, n-is) (or-none _ frames e)

pub worked-by : (s : State) (channel : ℕ) (lent frames : List ℕ) (frame bit : ℕ) → lent ≡ meant s.mode channel frames
    → worked_of s channel lent frame bit ≡ worked s channel frames frame bit
unfolding worked
worked-by s channel lent frames frame bit e = ap (λ (l : List ℕ). worked_of s channel l frame bit) e

-- ---- the front of a buffer of zeros

pub front-zeros : (n m : ℕ) → n ≤ m → take {A = ℕ} n (replicate m 0) ≡ replicate n 0
front-zeros zero m l = refl
front-zeros (suc n) zero l = absurd (omega arith)
front-zeros (suc n) (suc m) l = ap (λ (z : List ℕ). 0 ∷ z) (front-zeros n m (omega arith))

pub front_long : (n m : ℕ) → n ≤ m → n ≡ length (take {A = ℕ} n (replicate m 0))
front_long n m l = sym (ap length (front-zeros n m l) ∙ length-replicate {A = ℕ} n 0)
