-- No frame fits where no path ends where it began; one alone where one register has such a path and that forks nowhere; else several. Assumes nothing.
use mathlib.Core.Path.{◌≡◌, refl, sym, ap, ◌∙◌}
use mathlib.Core.Bool.{true, true≢false}
use mathlib.Core.List.{List}
use Prim.Native.Nat.{ℕ, ◌+◌, ◌<◌}
use native.Mathlib.Decide.{dec_lt, ℕ_discrete}
use native.Mathlib.Omega.{arith}
use Rattle.bits.specs.Bits.{bit_at, packed}
use Rattle.bits.proofs.Numbers.{number-cong}
use Rattle.runs.specs.declared.Answer.{Answer}
use Rattle.runs.specs.declared.Answer.TheVariants.{Success, NoFrameFits, SeveralFit}
use Rattle.scrambling.specs.Scrambler.{scrambled}
use Rattle.trellis.specs.Cells.{scrambled_of}
use Rattle.trellis.specs.Paths.{start}
use Rattle.trellis.proofs.Closing.{start-lt}
use Rattle.trellis.proofs.Distances.{distance-cong}
use Rattle.decoding.proofs.Ranking.{frame-bits, frame_same}
use Rattle.decoding.proofs.Written.{start-cong, unscrambled-frame, scrambled-again}
use Rattle.restoring.specs.Reaching.{closed, went, zeros, Fork, NextClosed}
use Rattle.restoring.specs.Restored.{Fits, One, None, Several}
use Rattle.restoring.proofs.Fitting.{fits-zero, zero-fits}
use Rattle.restoring.proofs.Reaching.{path-bit, path-start, path-fits, frame_closed, only-path, turn, turn-bit, differs-there}

zero_bit : (j : ℕ) → zeros j < 2
zero_bit j = omega arith

-- the frame with the scrambled bits w
abbrev pub frame_of : (ℕ → ℕ) → List ℕ
frame_of w = packed 10 (scrambled (bit_at (packed 10 w)))

-- frames with other bits are others
apart : (v w : ℕ → ℕ) → ((i : ℕ) → v i < 2) → ((i : ℕ) → w i < 2) → (n : ℕ) → n < 80 → (v n ≡ w n → ⊥) → frame_of v ≡ frame_of w → ⊥
apart v w hv hw n l d e =
    d (sym (scrambled-again v hv (frame_of v) refl n l) ∙ ap (λ (f : List ℕ). scrambled_of f n) e ∙ scrambled-again w hw (frame_of w) refl n l)

same_start : (w : ℕ → ℕ) → ((i : ℕ) → w i < 2) → start (scrambled_of (frame_of w)) ≡ start w
same_start w h = start-cong _ w (scrambled-again w h (frame_of w) refl)

module _ (cells : List ℕ) where
  -- a frame that fits has a path that ends where it began
  fit-closed : (f : List ℕ) → Fits cells f → closed cells (start (scrambled_of f)) ≡ true
  fit-closed f fits = frame_closed cells (scrambled_of f) (frame-bits f) (fits-zero cells f fits)

  fit-start : (f : List ℕ) → start (scrambled_of f) < 64
  fit-start f = start-lt (scrambled_of f) (frame-bits f)

  pub none-fits : (before : List ℕ) (e : ℕ) → NextClosed cells 0 e → e ≡ 64 → None cells before before NoFrameFits
  none-fits before e h q =
      record {
        answer = refl;
        nothing = λ f fits. true≢false (sym (fit-closed f fits) ∙ h.none (start (scrambled_of f)) (omega arith) (omega (arith, fit-start f)));
        unchanged = refl;
      }

  module _ (e : ℕ) (h : NextClosed cells 0 e) (inside : e ≡ 64 → ⊥) where
    low : e < 64
    low = omega (arith, h.low)

    bits-of : (d : ℕ) → d < 64 → closed cells d ≡ true → (p : ℕ → ℕ) → ((j : ℕ) → p j < 2) → Fits cells (frame_of (went cells d p))
    bits-of d l c p bit =
        let hw = path-bit cells d l c p bit in
        zero-fits cells (frame_of (went cells d p)) (unscrambled-frame (went cells d p) hw _ refl)
        (distance-cong cells _ (went cells d p) (scrambled-again (went cells d p) hw _ refl) ∙ path-fits cells d l c p bit)

    -- two registers with such a path
    pub several-start : (before : List ℕ) (d : ℕ) → NextClosed cells (e + 1) d → (d ≡ 64 → ⊥) → Several cells before before SeveralFit
    several-start before d k n =
        let l : d < 64 = omega (arith, k.low) in
        let ce = h.there low in
        let cd = k.there l in
        record {
          answer = refl;
          one = frame_of (went cells e zeros);
          other = frame_of (went cells d zeros);
          one-fits = bits-of e low ce zeros zero_bit;
          other_fits = bits-of d l cd zeros zero_bit;
          differ = λ q.
              let be = path-bit cells e low ce zeros zero_bit in
              let bd = path-bit cells d l cd zeros zero_bit in
              let a : start (went cells e zeros) ≡ start (went cells d zeros) =
              sym (same_start (went cells e zeros) be) ∙ ap (λ (f : List ℕ). start (scrambled_of f)) q ∙ same_start (went cells d zeros) bd in
              omega (arith, k.above, path-start cells e low ce zeros zero_bit, path-start cells d l cd zeros zero_bit);
          unchanged = refl;
        }

    -- a path that forks
    pub several-fork : (before : List ℕ) (n : ℕ) → n < 80 → Fork cells e n → Several cells before before SeveralFit
    several-fork before n l fork =
        let ce = h.there low in
        record {
          answer = refl;
          one = frame_of (went cells e zeros);
          other = frame_of (went cells e (turn n));
          one-fits = bits-of e low ce zeros zero_bit;
          other_fits = bits-of e low ce (turn n) (turn-bit n);
          differ = apart (went cells e zeros) (went cells e (turn n)) (path-bit cells e low ce zeros zero_bit) (path-bit cells e low ce (turn n) (turn-bit n)) n l
              (differs-there cells e n fork);
          unchanged = refl;
        }

    -- one register, and a path that does not
    pub one-fits : (after : List ℕ) (r : Answer) (d : ℕ) → NextClosed cells (e + 1) d → d ≡ 64 → ((j : ℕ) → j < 80 → Fork cells e j → ⊥)
        → after ≡ frame_of (went cells e zeros) → r ≡ Success → One cells after r
    one-fits after r d k q alone z s =
        let ce = h.there low in
        let hw = path-bit cells e low ce zeros zero_bit in
        let fits : Fits cells (frame_of (went cells e zeros)) = bits-of e low ce zeros zero_bit in
        rw z
        record {
          answer = s;
          fits = fits;
          alone = λ f g.
              frame_same f (frame_of (went cells e zeros)) g.shape fits.shape
              (number-cong 80 _ _
              (λ i l.
              only-path cells (scrambled_of f) (frame-bits f) (fits-zero cells f g) e (starts f g) alone i l
              ∙ sym (scrambled-again (went cells e zeros) hw _ refl i l)));
        }
      where
        starts : (f : List ℕ) → Fits cells f → start (scrambled_of f) ≡ e
        starts f g = go (dec_lt (start (scrambled_of f)) e) (ℕ_discrete (start (scrambled_of f)) e)
          where
            go : Dec (start (scrambled_of f) < e) → Dec (start (scrambled_of f) ≡ e) → start (scrambled_of f) ≡ e
            go (yes l) m = absurd (true≢false (sym (fit-closed f g) ∙ h.none _ (omega arith) l))
            go (no l) (yes m) = m
            go (no l) (no m) = absurd (true≢false (sym (fit-closed f g) ∙ k.none _ (omega arith) (omega (arith, fit-start f))))
