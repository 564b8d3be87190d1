-- The frame that is written is the nearest one. Assumes nothing.
use mathlib.Core.Path.{◌≡◌, sym, ap, ◌∙◌}
use mathlib.Core.List.{List}
use Prim.Native.Nat.{ℕ, ◌+◌, ◌<◌, ◌≤◌}
use native.Mathlib.Omega.{arith}
use Rattle.bits.specs.Bits.{bit_at, packed}
use Rattle.bits.proofs.Numbers.{number-cong}
use Rattle.bits.proofs.Packed.{length-packed, packed-bytes, packed-cong, bit_at-packed}
use Rattle.scrambling.specs.Scrambler.{scrambled}
use Rattle.scrambling.proofs.Laws.{scrambled-bit, scrambled-same, scrambled-twice}
use Rattle.trellis.specs.Cells.{Frame, scrambled_of, distance}
use Rattle.trellis.specs.Paths.{start}
use Rattle.trellis.specs.Trellis.{cost, ended, tabled, Tabled, walk, least}
use Rattle.decoding.specs.Nearness.{Nearest}
use Rattle.decoding.specs.Starts.{BestStart}
use Rattle.trellis.proofs.Distances.{distance-cong}
use Rattle.trellis.proofs.Closing.{walk-bit, walk-nearest, NearestFrom}
use Rattle.trellis.proofs.Tables.{least-same, walk_same}
use Rattle.decoding.proofs.Ranking.{frame-bits, best-rank}

pub start-cong : (s t : ℕ → ℕ) → ((i : ℕ) → i < 80 → s i ≡ t i) → start s ≡ start t
unfolding start
start-cong s t h = number-cong 6 _ _ (λ i l. h (74 + i) (omega arith))

-- bits that were packed, scrambled and packed again
module _ (w : ℕ → ℕ) (h : (i : ℕ) → w i < 2) (frame : List ℕ) (e : frame ≡ packed 10 (scrambled (bit_at (packed 10 w)))) where
  pub unscrambled-frame : Frame frame
  unscrambled-frame =
      record {
        ten = ap lib.ListN.length e ∙ length-packed 10 _;
        bytes = λ j. rw e (packed-bytes 10 _ (λ i l. scrambled-bit _ i) j);
      }

  pub scrambled-again : (i : ℕ) → i < 80 → scrambled_of frame i ≡ w i
  scrambled-again i l =
      scrambled-same (bit_at frame) (scrambled (bit_at (packed 10 w))) i
      (ap (λ (f : List ℕ). bit_at f i) e ∙ bit_at-packed 10 _ (λ i l. scrambled-bit _ i) i l)
      ∙ scrambled-twice (bit_at (packed 10 w)) i (rw (bit_at-packed 10 w (λ i l. h i) i l) (h i))
      ∙ bit_at-packed 10 w (λ i l. h i) i l

module _ (cells : List ℕ) (budget b : ℕ) (best : BestStart (cost cells) budget b) (low : budget ≤ 64) (frame : List ℕ)
    (e : frame ≡ packed 10 (scrambled (bit_at (packed 10 (walk (cost cells) (ended b) b))))) where
  abbrev w : ℕ → ℕ
  w = walk (cost cells) (ended b) b

  same : (i : ℕ) → i < 80 → scrambled_of frame i ≡ w i
  same = scrambled-again w (walk-bit (cost cells) (ended b) b) frame e

  near : NearestFrom cells b (scrambled_of frame)
  near =
      let n = walk-nearest cells b (omega (arith, best.tried)) in
      record {
        starts = start-cong (scrambled_of frame) w same ∙ n.starts;
        near = distance-cong cells (scrambled_of frame) w same ∙ n.near;
        lowest = λ t h q d. omega (arith, n.lowest t h q d, number-cong 80 (scrambled_of frame) w same);
      }

  found-nearest : Nearest cells budget frame
  found-nearest =
      record {
        shape = unscrambled-frame w (walk-bit (cost cells) (ended b) b) frame e;
        tried = omega (arith, near.starts, best.tried);
        first = λ other shape l. best-rank cells budget b (scrambled_of frame) best near (frame-bits frame) (scrambled_of other) (frame-bits other) l;
      }

  found-distance : (d : ℕ) → d ≡ least (cost cells) b → d ≡ distance cells (scrambled_of frame)
  found-distance d q = q ∙ sym near.near

-- what the search leaves, from the table of costs
module _ (cells costs : List ℕ) (t : Tabled cells costs) (budget b : ℕ) (best : BestStart (tabled costs) budget b) (low : budget ≤ 64) (frame : List ℕ)
    (e : frame ≡ packed 10 (scrambled (bit_at (packed 10 (walk (tabled costs) (ended b) b))))) where
  same-least : (e : ℕ) → e < 64 → least (tabled costs) e ≡ least (cost cells) e
  same-least e l = least-same (tabled costs) (cost cells) t.at (ended e) e l

  best_of : BestStart (cost cells) budget b
  best_of =
      let b64 : b < 64 = omega (arith, best.tried) in
      record {
        tried = best.tried;
        under = λ e l. omega (arith, best.under e l, same-least e (omega arith), same-least b b64);
        first = λ e l. omega (arith, best.first e l, same-least e (omega arith), same-least b b64);
      }

  frame-of : frame ≡ packed 10 (scrambled (bit_at (packed 10 (walk (cost cells) (ended b) b))))
  frame-of =
      e
      ∙ ap (λ (f : List ℕ). packed 10 (scrambled (bit_at f)))
      (packed-cong 10 _ _ (walk_same (tabled costs) (cost cells) t.at (ended b) b (omega (arith, best.tried))))

  pub searched : (d : ℕ) → d ≡ least (tabled costs) b → Nearest cells budget frame × (d ≡ distance cells (scrambled_of frame))
  searched d q = (
    found-nearest cells budget b best_of low frame frame-of,
    found-distance cells budget b best_of low frame frame-of d (q ∙ same-least b (omega (arith, best.tried))),
  )
