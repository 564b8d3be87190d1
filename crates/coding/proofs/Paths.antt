-- A channel whose frames are scrambled once and coded for two paths: each path gives back the scrambled frames, and they come out whole. Assumes nothing.
use mathlib.Core.Path.{◌≡◌, sym, ap, ◌∙◌}
use mathlib.Core.Bool.{false, not}
use Prim.Native.Nat.{ℕ, ◌+◌, ◌*◌, ◌<◌}
use native.Mathlib.Nat.{div-lt_iff_lt-mul}
use native.Mathlib.Omega.{arith}
use lib.Arith.{digits_div, digits_mod}
use borrow.Author.Tests.{not-false}
use Rattle.scrambling.specs.Scrambler.{scrambled_each}
use Rattle.scrambling.proofs.Frames.{scrambled_each-bit}
use Rattle.coding.specs.declared.Rate.{Rate}
use Rattle.coding.specs.Coder.{coded, output}
use Rattle.coding.specs.Inverse.{uncoded}
use Rattle.coding.specs.Rates.{pattern_of, recipe_of, coded_length, is_coded}
use Rattle.coding.specs.Channel.{part, channel, no_frame, Agree}
use Rattle.coding.specs.Buffers.{Long, coded_each, uncoded_each}
use Rattle.coding.proofs.Coder.{coded-again, coded-same, uncoded-coded, uncoded-same}
use Rattle.coding.proofs.Inverts.{inverts}
use Rattle.coding.proofs.Channel.{is-coded, unchannel-is, frame-there, frame-passes, length-pos}
use Rattle.coding.proofs.Passes.{channel-each, unchannel-each, coded_each-same, uncoded_each-bit}

-- scrambled twice, the frames are what they were
pub each_twice : (n : ℕ) (f : ℕ → ℕ) (i : ℕ) → f i < 2 → scrambled_each n (scrambled_each n f) i ≡ f i
unfolding scrambled_each
each_twice n f i h = omega arith

-- zeros code to zeros
pub coded_each-zero : (rate : Rate) (n : ℕ) (f : ℕ → ℕ) → ((i : ℕ) → f i ≡ 0) → (m : ℕ) → coded_each rate n f m ≡ 0
unfolding coded_each coded output
coded_each-zero rate n f h m = simp h (omega arith)

module _ (rate : Rate) (n : ℕ) (l : Long n) where
  pos : 0 < n
  pos = omega (arith, l.enough)

  -- from the coded bits of K transfer frames, the scrambled frames
  module _ (f y : ℕ → ℕ) (K : ℕ) (bits : (i : ℕ) → f i < 2) (same : (m : ℕ) → m < K * coded_length rate n → y m ≡ channel rate n f m) where
    pub uncoded-frames : (i : ℕ) → i < K * n → uncoded_each rate n y i ≡ scrambled_each n f i
    unfolding scrambled_each
    uncoded-frames i h =
        let u = uncoded_each-bit rate n y i in
        let b = bits i in
        let e = unchannel-each rate n y i ∙ unchannel-is rate n l f y K bits same i h in
        omega arith

  -- from the codings of K scrambled frames
  module _ (s y : ℕ → ℕ) (K : ℕ) (bits : (i : ℕ) → s i < 2) (same : (m : ℕ) → m < K * coded_length rate n → y m ≡ coded_each rate n s m) where
    as-channel : (m : ℕ) → m < K * coded_length rate n → y m ≡ channel rate n (scrambled_each n s) m
    as-channel m h =
        same m h
        ∙ sym (coded_each-same rate n K _ _ pos (λ i _. each_twice n s i (bits i)) m ((div-lt_iff_lt-mul (length-pos rate n l.enough)).1 h))
        ∙ channel-each rate n (scrambled_each n s) m pos

    pub uncoded-scrambled : (i : ℕ) → i < K * n → uncoded_each rate n y i ≡ s i
    uncoded-scrambled i h =
        uncoded-frames (scrambled_each n s) y K (scrambled_each-bit n s) as-channel i h ∙ each_twice n s i (bits i)

    pub scrambled-passes : (k : ℕ) → k < K → no_frame rate n y k ≡ false
    scrambled-passes k h =
        frame-passes rate n l y k (frame-there rate n l (scrambled_each n s) y K (scrambled_each-bit n s) as-channel k h)

  -- ---- one frame of the path

  -- bit i of decoded frame f
  uncoded-part : (y : ℕ → ℕ) (f i : ℕ) → i < n
      → uncoded_each rate n y (f * n + i) ≡ uncoded (pattern_of rate) (recipe_of rate) n (part (coded_length rate n) f y) i
  unfolding uncoded_each
  uncoded-part y f i h = rw (digits_div f h, digits_mod f h)

  module _ (s y : ℕ → ℕ) (f : ℕ) where
    -- the cells of frame f are the coding of frame f of s: then they are a coded frame, and decode to it
    pub whole-then : ((i : ℕ) → s i < 2) → Agree (coded_length rate n) (part (coded_length rate n) f y) (coded (pattern_of rate) n (part n f s))
        → (no_frame rate n y f ≡ false) × ((i : ℕ) → i < n → uncoded_each rate n y (f * n + i) ≡ s (f * n + i))
    unfolding no_frame
    whole-then bits e = (
      ap not ((is-coded rate n l (part (coded_length rate n) f y)).1 (part n f s, (λ i _. bits _), e)),
      λ i h.
          uncoded-part y f i h
          ∙ uncoded-same (pattern_of rate) (recipe_of rate) (inverts rate).entries n _ _ pos l.even e i
          ∙ uncoded-coded (pattern_of rate) (recipe_of rate) (inverts rate) n (part n f s) i l.enough h (bits _),
    )

    -- and the other way round
    pub then-whole : no_frame rate n y f ≡ false → ((i : ℕ) → i < n → uncoded_each rate n y (f * n + i) ≡ s (f * n + i))
        → Agree (coded_length rate n) (part (coded_length rate n) f y) (coded (pattern_of rate) n (part n f s))
    unfolding no_frame
    then-whole good same m h =
        (coded-again (pattern_of rate) (recipe_of rate) (inverts rate) n l (part (coded_length rate n) f y)).0
        ((is-coded rate n l (part (coded_length rate n) f y)).0 (not-false (is_coded rate n (part (coded_length rate n) f y)) good)) m h
        ∙ coded-same (pattern_of rate) n _ _ pos (λ i j. sym (uncoded-part y f i j) ∙ same i j) m
