-- How the interleaver writes a coded bit, channel by channel. Assumes nothing.
use mathlib.Core.Path.{◌≡◌, refl, ap, ◌∙◌}
use mathlib.Core.Bool.{Bool, true, false, cond}
use Prim.Native.Nat.{ℕ, ◌+◌, ◌*◌, ◌≤◌, ◌<◌}
use native.Mathlib.Decide.{dec_lt}
use native.Mathlib.Omega.{arith}
use lib.Dec.{eqb}
use borrow.Author.Tests.{eq-eqb, ne_eqb, le-ltb}
use Rattle.coding.specs.declared.Rate.TheVariants.{Half}
use Rattle.coding.specs.Rates.{coded_length}
use Rattle.interleaving.specs.PX.{coded_bits, cells, step_of}
use Rattle.runs.specs.declared.Kind.{Kind}
use Rattle.runs.specs.declared.Kind.TheVariants.{Unused, Narrow, Wide}
use Rattle.runs.specs.Lengths.{frame_bits, table_row}
use Rattle.queries.specs.FinderPX.{kind_of_number, columns_of, frame_coded}
use Rattle.queries.proofs.Origins.{rows-hold, frame-holds, columns-le, step-lt}
use Rattle.locating.specs.Writing.{p1_writing, pids_writing, px_writing}
use Rattle.locating.proofs.CasesPX.{bit-small}
use Rattle.workings.specs.Shown.{rate_of, frames_of, bits_of, writing_of}
use Rattle.workings.proofs.Sizes.{frames-extended}

module _ (mode half channel frame bit : ℕ) where
  pub of-p1 : channel ≡ 1 → p1_writing bit ≡ writing_of mode half channel frame bit
  unfolding writing_of
  of-p1 e = rw (eq-eqb channel 1 e)

  pub of-pids : (channel ≡ 1 → ⊥) → channel ≡ 2 → pids_writing (frame * 200 + bit) ≡ writing_of mode half channel frame bit
  unfolding writing_of
  of-pids n e = rw (ne_eqb channel 1 n, eq-eqb channel 2 e)

  -- k is how the mode sends the channel
  module _ (n : channel ≡ 1 → ⊥) (m : channel ≡ 2 → ⊥) (k : Kind) (k-is : k ≡ kind_of_number mode channel) where
    pub of-kind : px_writing (table_row k) (step_of (table_row k) half (frame * frame_coded k + bit)) ≡ writing_of mode half channel frame bit
    unfolding writing_of
    of-kind = rw (ne_eqb channel 1 n, ne_eqb channel 2 m, ← k-is)

    -- in rows of c cells
    pub of-px : (r c : ℕ) → r ≡ table_row k → c ≡ columns_of k → px_writing r (half * (8 * (64 * c)) + (frame * (64 * c) + bit)) ≡ writing_of mode half channel frame bit
    of-px r c r-is c-is =
        let all : coded_bits (table_row k) ≡ 8 * (64 * c) = omega (arith, rows-hold k) in
        let one : frame_coded k ≡ 64 * c = omega (arith, frame-holds k) in
        rw (r-is, ← all, ← one) of-kind

-- ---- what the code asks

module _ (mode channel frame bit : ℕ) (lf : frame < frames_of channel) (lb : bit < coded_length (rate_of channel) (bits_of mode channel)) where
  pub in-p1 : channel ≡ 1 → bit < 365440
  unfolding rate_of bits_of
  in-p1 e = rw e at lb

  pub in-pids : channel ≡ 2 → (frame < 16) × (bit < 200)
  unfolding rate_of bits_of frames_of
  in-pids e = (rw e at lf, rw e at lb)

-- no channel has the number 0
no_bits : (mode : ℕ) → frame_bits (kind_of_number mode 0) ≡ 0
unfolding kind_of_number
no_bits mode = go (eqb mode 5)
  where
    go : (b : Bool) → frame_bits (cond b Unused Unused) ≡ 0
    go true = refl
    go false = refl

half_of : (k : Kind) → coded_length Half (frame_bits k) ≡ frame_coded k
half_of Unused = refl
half_of Narrow = refl
half_of Wide = refl

module _ (mode channel : ℕ) (n : channel ≡ 1 → ⊥) (m : channel ≡ 2 → ⊥) where
  bits_is : bits_of mode channel ≡ frame_bits (kind_of_number mode channel)
  unfolding bits_of
  bits_is = rw (ne_eqb channel 1 n, ne_eqb channel 2 m)

  rate-half : 3 ≤ channel → rate_of channel ≡ Half
  unfolding rate_of
  rate-half h = rw (le-ltb channel 3 h)

  none : channel < 3 → bits_of mode channel ≡ 0
  none l = let e : channel ≡ 0 = omega arith in bits_is ∙ ap (λ (c : ℕ). frame_bits (kind_of_number mode c)) e ∙ no_bits mode

  pub in-px : (frame bit : ℕ) → frame < frames_of channel → bit < coded_length (rate_of channel) (bits_of mode channel)
      → (frame < 8) × (bit < frame_coded (kind_of_number mode channel))
  in-px frame bit lf lb = (omega (arith, frames-extended channel n m), go (dec_lt channel 3))
    where
      go : Dec (channel < 3) → bit < frame_coded (kind_of_number mode channel)
      go (yes l) = absurd (omega (arith, rw (none l) at lb))
      go (no l) = omega (arith, rw (bits_is, rate-half (omega arith)) at lb, half_of (kind_of_number mode channel))

-- the step of the coded bit, of a kind that is sent: its row of the tables, and that it is one of the steps
pub record Step (k : Kind) (half frame bit c : ℕ) : Type 0 where
  pub row_lt : table_row k < 2
  pub step_in : half * (8 * (64 * c)) + (frame * (64 * c) + bit) < cells (table_row k)
  pub small : half * (8 * (64 * c)) + (frame * (64 * c) + bit) < 147456

row-of : (k : Kind) (bit : ℕ) → bit < frame_coded k → table_row k < 2
row-of Unused bit l = absurd (omega arith)
row-of Narrow bit l = omega arith
row-of Wide bit l = omega arith

pub step-of : (k : Kind) (half frame bit c : ℕ) → c ≡ columns_of k → half < 2 → frame < 8 → bit < frame_coded k → Step k half frame bit c
step-of k half frame bit c c-is lh lf lb =
    let r = row-of k bit lb in
    let j = bit-small k frame bit c c-is lf lb in
    let all : 8 * (64 * c) ≡ coded_bits (table_row k) = omega (arith, rows-hold k) in
    let l = step-lt (table_row k) (8 * (64 * c)) half (frame * (64 * c) + bit) r all lh j.0 in
    record { row_lt = r; step_in = l; small = omega (arith, rows-hold k, columns-le k) }
