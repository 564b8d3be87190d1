-- A channel there and back, and the test that part of its coded bits is no coded transfer frame. Assumes nothing.
use mathlib.Core.Path.{◌≡◌, refl, sym, ap, ap₂, ◌∙◌}
use mathlib.Core.Logic.{◌↔◌}
use mathlib.Core.Bool.{Bool, true, false, not, true≢false}
use Prim.Native.Nat.{ℕ, suc, ◌+◌, ◌*◌, ◌/◌, ◌%◌, ◌<◌, ◌≤◌}
use native.Mathlib.Nat.{div-add-mod', mod-lt, div-lt_iff_lt-mul, not-suc-le-zero}
use native.Mathlib.Omega.{arith}
use lib.Dec.{T, eqb, eqb→eq}
use lib.Arith.{digits_div, digits_mod, digits_lt}
use borrow.Author.Tests.{eq-eqb}
use Rattle.bits.specs.Tests.{all}
use Rattle.bits.proofs.Tests.{all-at, all_true, all-cong}
use Rattle.scrambling.specs.Scrambler.{scrambled}
use Rattle.scrambling.proofs.Laws.{scrambled-twice, scrambled-bit, scrambled-same, unscrambled}
use Rattle.coding.specs.declared.Rate.{Rate}
use Rattle.coding.specs.declared.Rate.TheVariants.{TwoFifths, Half}
use Rattle.coding.specs.Coder.{coded}
use Rattle.coding.specs.Inverse.{uncoded}
use Rattle.coding.specs.Rates.{pattern_of, recipe_of, coded_length, is_coded}
use Rattle.coding.specs.Channel.{part, channel, unchannel, no_frame, Agree, IsCoded, IsFrame}
use Rattle.coding.specs.Buffers.{Long}
use Rattle.coding.proofs.Coder.{coded-bit, coded-same, uncoded-same, uncoded-coded, coded-again}
use Rattle.coding.proofs.Inverts.{inverts}

pub channel-bit : (rate : Rate) (n : ℕ) (f : ℕ → ℕ) (m : ℕ) → channel rate n f m < 2
unfolding channel
channel-bit rate n f m = coded-bit _ _ _ _

pub length-pos : (rate : Rate) (n : ℕ) → 12 ≤ n → 0 < coded_length rate n
length-pos TwoFifths n h = omega arith
length-pos Half n h = omega arith

-- a channel that brings no bits
pub empty-passes : (rate : Rate) (y : ℕ → ℕ) (k : ℕ) → no_frame rate 0 y k ≡ false
unfolding no_frame is_coded all
empty-passes TwoFifths y k = refl
empty-passes Half y k = refl

pub empty-frame : (rate : Rate) (y : ℕ → ℕ) (k : ℕ) → IsFrame rate 0 y k
empty-frame TwoFifths y k = ((λ i. 0), (λ i h. absurd (not-suc-le-zero h)), (λ i h. absurd (not-suc-le-zero h)))
empty-frame Half y k = ((λ i. 0), (λ i h. absurd (not-suc-le-zero h)), (λ i h. absurd (not-suc-le-zero h)))

is_true : (b : Bool) → b ≡ true → T b
is_true true e = tt
is_true false e = absurd (true≢false (sym e))

not-true : (b : Bool) → (b ≡ true → ⊥) → not b ≡ true
not-true true f = absurd (f refl)
not-true false f = refl

no-frame-is : (rate : Rate) (n : ℕ) (y : ℕ → ℕ) (k : ℕ) → (is_coded rate n (part (coded_length rate n) k y) ≡ true → ⊥) → no_frame rate n y k ≡ true
unfolding no_frame
no-frame-is rate n y k f = not-true (is_coded rate n (part (coded_length rate n) k y)) f

-- cells are the coding of a frame exactly where the test says so
pub is-coded : (rate : Rate) (n : ℕ) → Long n → (y : ℕ → ℕ) → is_coded rate n y ≡ true ↔ IsCoded (pattern_of rate) n y
unfolding is_coded
is-coded rate n l y =
    let again = coded-again (pattern_of rate) (recipe_of rate) (inverts rate) n l y in (
      (λ e. again.1 (λ m h. eqb→eq _ _ (all-at _ _ (is_true _ e) m h))),
      (λ w. all_true _ _ (λ m h. eq-eqb _ _ (again.0 w m h))),
    )

module _ (rate : Rate) (n : ℕ) (l : Long n) where
  pos : 0 < n
  pos = omega (arith, l.enough)

  -- coded bit m of transfer frame k
  channel-at : (f : ℕ → ℕ) (k m : ℕ) → m < coded_length rate n
      → channel rate n f (k * coded_length rate n + m) ≡ coded (pattern_of rate) n (scrambled (part n k f)) m
  unfolding channel
  channel-at f k m h = rw (digits_div k h, digits_mod k h)

  -- the coded bits of K transfer frames
  module _ (f y : ℕ → ℕ) (K : ℕ) (bits : (i : ℕ) → f i < 2) (same : (m : ℕ) → m < K * coded_length rate n → y m ≡ channel rate n f m) where
    part-is : (k : ℕ) → k < K → Agree (coded_length rate n) (part (coded_length rate n) k y) (coded (pattern_of rate) n (scrambled (part n k f)))
    part-is k h m j = same (k * coded_length rate n + m) (digits_lt h j) ∙ channel-at f k m j

    -- the frames come back
    pub unchannel-is : (i : ℕ) → i < K * n → unchannel rate n y i ≡ f i
    unfolding unchannel
    unchannel-is i h =
        let k : ℕ = i / n in
        let r : ℕ = i % n in
        let hk : k < K = (div-lt_iff_lt-mul pos).1 h in
        let hr : r < n = mod-lt i pos in
        unscrambled (part n k f) (uncoded (pattern_of rate) (recipe_of rate) n (part (coded_length rate n) k y)) r (bits _)
        (uncoded-same (pattern_of rate) (recipe_of rate) (inverts rate).entries n _ _ pos l.even (part-is k hk) r
        ∙ uncoded-coded (pattern_of rate) (recipe_of rate) (inverts rate) n (scrambled (part n k f)) r l.enough hr (scrambled-bit _ r))
        ∙ ap f (div-add-mod' i n)

    pub frame-there : (k : ℕ) → k < K → IsFrame rate n y k
    frame-there k h = (part n k f, (λ i _. bits _), part-is k h)

  -- part k is a coded transfer frame exactly where the test says so
  coded-frame : (y : ℕ → ℕ) (k : ℕ) → IsFrame rate n y k ↔ IsCoded (pattern_of rate) n (part (coded_length rate n) k y)
  coded-frame y k = (
    (λ w. (scrambled w.0, (λ i h. scrambled-bit w.0 i), w.2)),
    (λ w. (
      scrambled w.0,
      (λ i h. scrambled-bit w.0 i),
      (λ m h. w.2 m h ∙ sym (coded-same (pattern_of rate) n (scrambled (scrambled w.0)) w.0 pos (λ i j. scrambled-twice w.0 i (w.1 i j)) m)),
    )),
  )

  pub frame-passes : (y : ℕ → ℕ) (k : ℕ) → IsFrame rate n y k → no_frame rate n y k ≡ false
  unfolding no_frame
  frame-passes y k w = ap not ((is-coded rate n l (part (coded_length rate n) k y)).1 ((coded-frame y k).0 w))

  pub no-frame : (y : ℕ → ℕ) (k : ℕ) → no_frame rate n y k ≡ true ↔ (IsFrame rate n y k → ⊥)
  no-frame y k = (
    (λ e w. true≢false (sym e ∙ frame-passes y k w)),
    (λ f. no-frame-is rate n y k (λ e. f ((coded-frame y k).1 ((is-coded rate n l (part (coded_length rate n) k y)).0 e)))),
  )

  -- there and back
  pub channel-back : (f : ℕ → ℕ) → ((i : ℕ) → f i < 2) → (i : ℕ) → unchannel rate n (channel rate n f) i ≡ f i
  channel-back f bits i = unchannel-is f (channel rate n f) (suc (i / n)) bits (λ m h. refl) i ((div-lt_iff_lt-mul pos).0 (omega arith))

  -- ---- the way back reads the coded bits of K frames alone

  coded-test-same : (y z : ℕ → ℕ) → Agree (coded_length rate n) y z → is_coded rate n y ≡ is_coded rate n z
  unfolding is_coded
  coded-test-same y z e =
      all-cong _ _ _
      (λ m h. ap₂ eqb (e m h)
      (coded-same (pattern_of rate) n _ _ pos
      (λ j _. uncoded-same (pattern_of rate) (recipe_of rate) (inverts rate).entries n y z pos l.even e j) m))

  module _ (y z : ℕ → ℕ) (K : ℕ) (e : Agree (K * coded_length rate n) y z) where
    parts_same : (k : ℕ) → k < K → Agree (coded_length rate n) (part (coded_length rate n) k y) (part (coded_length rate n) k z)
    parts_same k h m j = e (k * coded_length rate n + m) (digits_lt h j)

    pub unchannel-same : (i : ℕ) → i < K * n → unchannel rate n y i ≡ unchannel rate n z i
    unfolding unchannel
    unchannel-same i h =
        scrambled-same _ _ (i % n)
        (uncoded-same (pattern_of rate) (recipe_of rate) (inverts rate).entries n _ _ pos l.even
        (parts_same (i / n) ((div-lt_iff_lt-mul pos).1 h)) (i % n))

    pub no-frame-same : (k : ℕ) → k < K → no_frame rate n y k ≡ no_frame rate n z k
    unfolding no_frame
    no-frame-same k h = ap not (coded-test-same _ _ (parts_same k h))
