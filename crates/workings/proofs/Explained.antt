-- A working explains its coded bit. Scrambling before the taps or after them comes to the same modulo 2. Assumes nothing.
use mathlib.Core.Path.{◌≡◌, refl, sym, ap, ap₂, subst, ◌∙◌}
use mathlib.Core.Bool.{Bool, true, false, cond}
use mathlib.Core.List.{List}
use Prim.Native.Nat.{ℕ, zero, suc, ◌+◌, ◌*◌, ◌/◌, ◌%◌, ◌<◌}
use native.Mathlib.Omega.{arith}
use borrow.Author.Tests.{eqb-true, ltb-true, eq-eqb}
use lib.Dec.{eqb, ltb}
use lib.ListN.{get_or, length}
use Rattle.bits.specs.Bits.{bit_at}
use Rattle.bits.specs.Listed.{listed}
use Rattle.bits.proofs.Listed.{length-listed, get_or-listed}
use Rattle.scrambling.specs.Scrambler.{sequence, scrambled}
use Rattle.coding.specs.declared.Rate.{Rate}
use Rattle.coding.specs.declared.Rate.TheVariants.{TwoFifths, Half}
use Rattle.coding.specs.Coder.{back, tapped, generators, output, coded, kept, rate25, rate12}
use Rattle.coding.specs.Rates.{pattern_of, coded_length}
use Rattle.coding.specs.Channel.{part, channel}
use Rattle.coding.proofs.Linear.{tapped-mod}
use Rattle.interleaving.proofs.Mod.{div-of, mod-of}
use Rattle.runs.specs.declared.Answer.TheVariants.{Success, StateNotValid, WrongLength}
use Rattle.runs.specs.declared.State.{State}
use Rattle.runs.specs.Starting.{valid}
use Rattle.locating.specs.declared.writing.Writing.{Writing}
use Rattle.workings.specs.declared.Worked.{Worked}
use Rattle.workings.specs.Shown.{older, rate_of, frames_of, bits_of, generator_of, number_of, weighed, shown, refused, worked_of, meant, worked}
use Rattle.workings.specs.Explained.{Explains}
use Rattle.workings.proofs.Outputs as outputs
use Rattle.workings.proofs.Cases.{inside}
use Rattle.workings.proofs.Sizes.{whole}

-- ---- the coded bit

-- what is added up, bit by bit
weighed-is : (g : ℕ) (x y : ℕ → ℕ) → weighed g (listed 7 x) (listed 7 y) ≡ tapped g (λ d. x d + y d)
unfolding weighed listed
weighed-is g x y = refl

output-is : (g n j : ℕ) (f : ℕ → ℕ) → tapped g (λ d. f (back n j d) + sequence (back n j d)) % 2 ≡ output g n (scrambled f) j
unfolding output scrambled
output-is g n j f = sym (tapped-mod g (λ d. f (back n j d) + sequence (back n j d)))

coded-is : (rate : Rate) (n : ℕ) (f : ℕ → ℕ) (m : ℕ) → output (generator_of rate m) n (scrambled f) (number_of rate m) ≡ coded (pattern_of rate) n (scrambled f) m
unfolding coded
coded-is rate n f m = refl

channel-is : (rate : Rate) (n : ℕ) (F : ℕ → ℕ) (frame m : ℕ) → m < coded_length rate n
    → coded (pattern_of rate) n (scrambled (part n frame F)) m ≡ channel rate n F (frame * coded_length rate n + m)
unfolding channel
channel-is rate n F frame m l =
    sym
    (ap₂ (λ (q r : ℕ). coded (pattern_of rate) n (scrambled (part n q F)) r)
    (div-of (coded_length rate n) frame m _ refl l) (mod-of (coded_length rate n) frame m _ refl l))

-- ---- the generator

of-three25 : (k : ℕ) → k < 5 → (i : ℕ) × (i < 3) × ((kept rate25 k).1 ≡ get_or generators i 0)
of-three25 zero h = (0, omega arith, refl)
of-three25 (suc zero) h = (1, omega arith, refl)
of-three25 (suc (suc zero)) h = (2, omega arith, refl)
of-three25 (suc (suc (suc zero))) h = (0, omega arith, refl)
of-three25 (suc (suc (suc (suc zero)))) h = (1, omega arith, refl)
of-three25 (suc (suc (suc (suc (suc k))))) h = absurd (omega arith)

of-three12 : (k : ℕ) → k < 4 → (i : ℕ) × (i < 3) × ((kept rate12 k).1 ≡ get_or generators i 0)
of-three12 zero h = (0, omega arith, refl)
of-three12 (suc zero) h = (2, omega arith, refl)
of-three12 (suc (suc zero)) h = (0, omega arith, refl)
of-three12 (suc (suc (suc zero))) h = (2, omega arith, refl)
of-three12 (suc (suc (suc (suc k)))) h = absurd (omega arith)

of_three : (rate : Rate) (m : ℕ) → (i : ℕ) × (i < 3) × (generator_of rate m ≡ get_or generators i 0)
of_three TwoFifths m = of-three25 (m % 5) (omega arith)
of_three Half m = of-three12 (m % 4) (omega arith)

-- ---- a working that is shown

pub shown-explains : (rate : Rate) (n : ℕ) (F : ℕ → ℕ) (frame m : ℕ) → n % 2 ≡ 0 → m < coded_length rate n
    → (w : Writing) → Explains rate n F frame m (shown rate n (part n frame F) m w)
unfolding shown weighed
shown-explains rate n F frame m even l w =
    record {
      is-coded =
          ap (λ (x : ℕ). x % 2) (weighed-is g (λ d. f (back n j d)) (λ d. sequence (back n j d)))
          ∙ output-is g n j f
          ∙ coded-is rate n f m
          ∙ channel-is rate n F frame m l;
      is_sum = refl;
      adds-up = refl;
      one_of_three = of_three rate m;
      number_lt = outputs.number_lt rate n m even l;
      seven = (length-listed 7 _, length-listed 7 _);
      bit-at = λ d h. get_or-listed 7 (λ d. f (back n j d)) d 0 h;
      added-at = λ d h. get_or-listed 7 (λ d. sequence (back n j d)) d 0 h;
    }
  where
    g : ℕ
    g = generator_of rate m

    j : ℕ
    j = number_of rate m

    f : ℕ → ℕ
    f = part n frame F

-- ---- every working that is not refused

-- the tests that a working passed
passed : (z a b c d e : Bool) (w : Worked)
    → (cond z
    (cond a (cond b (refused (WrongLength 0)) (cond c (cond d (cond e w (refused (WrongLength 3))) (refused (WrongLength 2))) (refused (WrongLength 1)))) (refused (WrongLength 0)))
    (refused StateNotValid)
    ).answer
    ≡ Success
    → (z ≡ true) × (a ≡ true) × (b ≡ false) × (c ≡ true) × (d ≡ true) × (e ≡ true)
unfolding refused
passed true true false true true true w h = (refl, refl, refl, refl, refl, refl)
passed true true false true true false w h = let z : ◌≡◌ {A = ℕ} 0 1 = cc in absurd (omega arith)
passed true true false true false e w h = let z : ◌≡◌ {A = ℕ} 0 1 = cc in absurd (omega arith)
passed true true false false d e w h = let z : ◌≡◌ {A = ℕ} 0 1 = cc in absurd (omega arith)
passed true true true c d e w h = let z : ◌≡◌ {A = ℕ} 0 1 = cc in absurd (omega arith)
passed true false b c d e w h = let z : ◌≡◌ {A = ℕ} 0 1 = cc in absurd (omega arith)
passed false a b c d e w h = let z : ◌≡◌ {A = ℕ} 0 1 = cc in absurd (omega arith)

module _ (s : State) (number : ℕ) (frames : List ℕ) (frame bit : ℕ) where
  abbrev n : ℕ
  n = bits_of s.mode number

  tests : (worked_of s number frames frame bit).answer ≡ Success
      → (valid s ≡ true) × (older s.mode ≡ true) × (eqb n 0 ≡ false) × (eqb (length frames) (frames_of number * n / 8) ≡ true)
      × (ltb frame (frames_of number) ≡ true) × (ltb bit (coded_length (rate_of number) n) ≡ true)
  unfolding worked_of
  tests h =
      passed (valid s) (older s.mode) (eqb n 0) (eqb (length frames) (frames_of number * n / 8)) (ltb frame (frames_of number)) (ltb bit (coded_length (rate_of number) n)) _ h

  explained-of : (worked_of s number frames frame bit).answer ≡ Success
      → Explains (rate_of number) n (bit_at frames) frame bit (worked_of s number frames frame bit)
  explained-of h =
      let (u, a, b, c, d, e) = tests h in
      let ne : n ≡ 0 → ⊥ = λ z. let q : ◌≡◌ {A = Bool} true false = sym (eq-eqb n 0 z) ∙ b in let r : ◌≡◌ {A = ℕ} 0 1 = cc in omega arith in
      let lb = ltb-true bit (coded_length (rate_of number) n) e in
      let w = whole s.mode number ne in
      subst (Explains (rate_of number) n (bit_at frames) frame bit)
      (inside s number frame bit frames u a n refl ne (frames_of number) refl (eqb-true (length frames) (frames_of number * n / 8) c) (ltb-true frame (frames_of number) d)
      (rate_of number) refl lb)
      (shown-explains (rate_of number) n (bit_at frames) frame bit (omega (arith, w.bytes)) lb _)

pub explained : (s : State) (number : ℕ) (frames : List ℕ) (frame bit : ℕ) → (worked s number frames frame bit).answer ≡ Success
    → Explains (rate_of number) (bits_of s.mode number) (bit_at (meant s.mode number frames)) frame bit (worked s number frames frame bit)
unfolding worked
explained s number frames frame bit h = explained-of s number (meant s.mode number frames) frame bit h
