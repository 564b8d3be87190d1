-- In every sender's run, in the modes to which locators and workings keep, the cell of a coded bit holds what its working comes to. Assumes nothing.
use mathlib.Core.Path.{◌≡◌, refl, sym, ap, subst, ◌∙◌}
use mathlib.Core.Bool.{true}
use mathlib.Core.List.{List}
use Prim.Native.Nat.{ℕ, zero, suc, ◌+◌, ◌*◌, ◌/◌, ◌%◌, ◌≤◌, ◌<◌}
use native.Mathlib.Nat.{zero-add}
use native.Mathlib.Omega.{arith}
use lib.ListN.{length, get_or}
use Rattle.std.specs.Prelude.{Ok}
use Rattle.bits.specs.Bits.{bit_at}
use Rattle.coding.specs.declared.Rate.{Rate}
use Rattle.coding.specs.declared.Rate.TheVariants.{TwoFifths, Half}
use Rattle.coding.specs.Rates.{coded_length}
use Rattle.coding.specs.Channel.{channel}
use Rattle.control.specs.Modes.{covered, modes, one_of}
use Rattle.control.proofs.Covered.{place}
use Rattle.interleaving.specs.declared.Position.{Position}
use Rattle.interleaving.specs.PX.{step_of, place as cell_written}
use Rattle.runs.specs.declared.Answer.TheVariants.{Success}
use Rattle.runs.specs.declared.Extended.{Extended}
use Rattle.runs.specs.declared.Extended.TheVariants.{P3, P4}
use Rattle.runs.specs.declared.Kind.{Kind}
use Rattle.runs.specs.declared.Kind.TheVariants.{Unused, Narrow, Wide}
use Rattle.runs.specs.declared.Main.TheVariants.{Plain}
use Rattle.runs.specs.MainChannels.{main_of, p1_len}
use Rattle.runs.specs.Lengths.{kind_of, frame_bits, frame_len, table_row, pids_len}
use Rattle.runs.specs.Chain.{coded_of}
use Rattle.runs.specs.Lent.{frame_of, matrix_of}
use Rattle.runs.specs.declared.State.{State}
use Rattle.runs.specs.Starting.{state_at, valid}
use Rattle.runs.proofs.States.{valid-at}
use Rattle.runs.specs.Runs.{SenderRun, count, frame_at, matrices_at}
use Rattle.runs.proofs.Sender.{covered_of, right-at}
use Rattle.queries.specs.FinderPX.{cell_of, frame_coded}
use Rattle.queries.specs.Sheets.{channel_number}
use Rattle.queries.proofs.Sheets.{number_is}
use Rattle.locating.specs.Locator.{at_cell, located}
use Rattle.locating.specs.LocatorPX.{at_cell as at_cell-px, located_px}
use Rattle.locating.specs.declared.writing.Writing.{Writing}
use Rattle.locating.specs.Writing.{p1_writing, pids_writing, px_writing}
use Rattle.locating.proofs.CasesPM.{p1-range, pids-range, p1-cell, pids-cell}
use Rattle.locating.proofs.AgainPX.{in-range, written-to}
use Rattle.locating.proofs.Sheets.{located-sheets}
use Rattle.workings.specs.Shown.{older, rate_of, frames_of, bits_of, writing_of, shown, meant, worked}
use Rattle.workings.specs.Sheets.{ComesTo, WorkedSheet}
use Rattle.workings.proofs.Cases.{inside}
use Rattle.workings.proofs.Meant.{meant-main, meant-some, worked-by}
use Rattle.workings.proofs.Sizes.{bits-p1, bits-pids, whole, frames-p1, frames-pids}
use Rattle.workings.proofs.Explained.{shown-explains}
use Rattle.workings.proofs.Written.{of-p1, of-pids, of-kind}

-- ---- the modes

older-at : (k mode : ℕ) → k < 6 → get_or modes k 0 ≡ mode → main_of mode ≡ Plain → older mode ≡ true
unfolding modes main_of older one_of
older-at zero mode l e is = rw (← e)
older-at (suc zero) mode l e is = rw (← e)
older-at (suc (suc zero)) mode l e is = rw (← e)
older-at (suc (suc (suc zero))) mode l e is = rw (← e)
older-at (suc (suc (suc (suc zero)))) mode l e is = let q = rw (← e) at is in let z : ◌≡◌ {A = ℕ} 0 1 = cc in absurd (omega arith)
older-at (suc (suc (suc (suc (suc zero))))) mode l e is = let q = rw (← e) at is in let z : ◌≡◌ {A = ℕ} 0 1 = cc in absurd (omega arith)
older-at (suc (suc (suc (suc (suc (suc k)))))) mode l e is = absurd (omega arith)

pub older-is : (mode : ℕ) → covered mode ≡ true → main_of mode ≡ Plain → older mode ≡ true
unfolding covered modes
older-is mode c is = let p = place modes mode c in older-at p.at mode p.inside p.is is

-- ---- a working of frames of the right length

pub shown-success : (rate : Rate) (n : ℕ) (f : ℕ → ℕ) (m : ℕ) (w : Writing) → (shown rate n f m w).answer ≡ Success
unfolding shown
shown-success rate n f m w = refl

pub shown-written : (rate : Rate) (n : ℕ) (f : ℕ → ℕ) (m : ℕ) (w : Writing) → (shown rate n f m w).writing ≡ w
unfolding shown
shown-written rate n f m w = refl

module _ (s : State) (number : ℕ) (frames : List ℕ) (frame bit n count : ℕ) (rate : Rate) (u : valid s ≡ true) (v : older s.mode ≡ true)
    (n-is : n ≡ bits_of s.mode number) (ne : n ≡ 0 → ⊥) (count-is : count ≡ frames_of number) (len : length frames ≡ count * n / 8)
    (same : frames ≡ meant s.mode number frames) (lf : frame < count) (rate-is : rate ≡ rate_of number) (lb : bit < coded_length rate n) where
  even : n % 2 ≡ 0
  even = let w = whole s.mode number (λ z. ne (n-is ∙ z)) in let e : n % 8 ≡ 0 = rw n-is w.bytes in omega arith

  pub comes-to-coded : (b cell : ℕ) → b ≡ channel rate n (bit_at frames) (frame * coded_length rate n + bit) → (writing_of s.mode s.half number frame bit).cell ≡ cell
      → ComesTo b cell (worked s number frames frame bit)
  comes-to-coded b cell b-is cell-is =
      let w = writing_of s.mode s.half number frame bit in
      subst (ComesTo b cell)
      (inside s number frame bit frames u v n n-is ne count count-is len lf rate rate-is lb ∙ worked-by s number frames frames frame bit same)
      (record {
        success = shown-success rate n _ bit w;
        comes-to = (shown-explains rate n (bit_at frames) frame bit even lb w).is-coded ∙ sym b-is;
        written-to = ap (λ (x : Writing). x.cell) (shown-written rate n _ bit w) ∙ cell-is;
      })

-- ---- the channels

pub rate-main : (number : ℕ) → number < 3 → TwoFifths ≡ rate_of number
unfolding rate_of
rate-main zero l = refl
rate-main (suc zero) l = refl
rate-main (suc (suc zero)) l = refl
rate-main (suc (suc (suc number))) l = absurd (omega arith)

pub rate-extended : (e : Extended) → Half ≡ rate_of (channel_number e)
unfolding rate_of
rate-extended P3 = refl
rate-extended P4 = refl

pub frames-extended-is : (e : Extended) → 8 ≡ frames_of (channel_number e)
unfolding frames_of
frames-extended-is P3 = refl
frames-extended-is P4 = refl

pub bits-extended-is : (mode : ℕ) → main_of mode ≡ Plain → (e : Extended) → frame_bits (kind_of mode e) ≡ bits_of mode (channel_number e)
unfolding bits_of
bits-extended-is mode is P3 = ap frame_bits (number_is mode is P3)
bits-extended-is mode is P4 = ap frame_bits (number_is mode is P4)

pub three-le : (e : Extended) → 3 ≤ channel_number e
three-le P3 = omega arith
three-le P4 = omega arith

-- eight frames of so many bits are as many bytes
pub length-bits : (k : Kind) → frame_len k ≡ frame_bits k
length-bits Unused = refl
length-bits Narrow = refl
length-bits Wide = refl

pub length-extended : (k : Kind) → frame_len k ≡ 8 * frame_bits k / 8
length-extended Unused = refl
length-extended Narrow = refl
length-extended Wide = refl

pub coded-extended : (k : Kind) → frame_coded k ≡ coded_length Half (frame_bits k)
coded-extended Unused = refl
coded-extended Narrow = refl
coded-extended Wide = refl

-- ---- the cells

p1-written : (mode half bit row column : ℕ) (p : Position) → located 1 0 bit ≡ Ok (at_cell p row column) → (writing_of mode half 1 0 bit).cell ≡ row * 720 + column
unfolding p1_writing
p1-written mode half bit row column p e = ap (λ (w : Writing). w.cell) (sym (of-p1 mode half 1 0 bit refl)) ∙ p1-cell bit row column p e

pub pids-written : (mode half frame bit row column : ℕ) (p : Position) → located 2 frame bit ≡ Ok (at_cell p row column)
    → (writing_of mode half 2 frame bit).cell ≡ row * 720 + column
unfolding pids_writing
pids-written mode half frame bit row column p e =
    ap (λ (w : Writing). w.cell) (sym (of-pids mode half 2 frame bit (λ z. omega arith) refl)) ∙ pids-cell frame bit row column p e

extended-ne : (e : Extended) → (channel_number e ≡ 1 → ⊥) × (channel_number e ≡ 2 → ⊥)
extended-ne P3 = (λ z. omega arith, λ z. omega arith)
extended-ne P4 = (λ z. omega arith, λ z. omega arith)

pub px-written : (mode half frame bit : ℕ) → main_of mode ≡ Plain → (e : Extended)
    → (writing_of mode half (channel_number e) frame bit).cell ≡ cell_written (table_row (kind_of mode e)) (step_of (table_row (kind_of mode e)) half (frame * frame_coded (kind_of mode e) + bit))
unfolding px_writing
px-written mode half frame bit is e =
    let k = kind_of mode e in
    let (n, m) = extended-ne e in
    ap (λ (w : Writing). w.cell) (sym (of-kind mode half (channel_number e) frame bit n m k (number_is mode is e)))

-- ---- the theorem

module _ (mode : ℕ) (is : main_of mode ≡ Plain) (a : SenderRun mode) (t : ℕ) (h : t < count mode a) where
  is-older : older mode ≡ true
  is-older = older-is mode (covered_of mode a) is

  is-valid : (z : ℕ) → z < 8 → valid (state_at mode z t) ≡ true
  is-valid z lz = valid-at mode (covered_of mode a) z lz t

  p1-comes : (z bit row column : ℕ) (p : Position) → z < 8 → located 1 0 bit ≡ Ok (at_cell p row column)
      → ComesTo (bit_at (matrices_at mode a t).pm (row * 720 + column)) (row * 720 + column) (worked (state_at mode z t) 1 (frame_at mode a t).p1 0 bit)
  p1-comes z bit row column p lz e =
      comes-to-coded (state_at mode z t) 1 (frame_at mode a t).p1 0 bit 146176 1 TwoFifths (is-valid z lz) is-older (bits-p1 mode 1 refl) (λ z. omega arith) (frames-p1 1 refl)
      ((right-at mode a t h).p1-right ∙ ap p1_len is) (meant-main mode 1 _ (omega arith)) (omega arith) (rate-main 1 (omega arith)) (p1-range bit row column p e) _ _
      ((located-sheets mode is a t h).p1-bit bit row column p e
      ∙ ap (channel TwoFifths 146176 (bit_at (frame_at mode a t).p1)) (sym (zero-add bit)))
      (p1-written mode (t % 2) bit row column p e)

  pids-comes : (z frame bit row column : ℕ) (p : Position) → z < 8 → located 2 frame bit ≡ Ok (at_cell p row column)
      → ComesTo (bit_at (matrices_at mode a t).pm (row * 720 + column)) (row * 720 + column) (worked (state_at mode z t) 2 (frame_at mode a t).pids frame bit)
  unfolding pids_len
  pids-comes z frame bit row column p lz e =
      let (lf, lb) = pids-range frame bit row column p e in
      comes-to-coded (state_at mode z t) 2 (frame_at mode a t).pids frame bit 80 16 TwoFifths (is-valid z lz) is-older (bits-pids mode 2 (λ z. omega arith) refl) (λ z. omega arith)
      (frames-pids 2 (λ z. omega arith) refl) (right-at mode a t h).pids-right (meant-main mode 2 _ (omega arith)) lf (rate-main 2 (omega arith)) lb _ _
      ((located-sheets mode is a t h).pids-bit frame bit row column p e)
      (pids-written mode (t % 2) frame bit row column p e)

  coded-comes : (e : Extended) (z frame bit later pair row column : ℕ) → z < 8
      → located_px (state_at mode z t) (channel_number e) frame bit ≡ Ok (at_cell-px later pair row column)
      → t + later < count mode a
      → ComesTo (bit_at (matrix_of mode (matrices_at mode a (t + later)) e) (cell_of (kind_of mode e) pair row column))
      (step_of (table_row (kind_of mode e)) ((t + later) % 2) (cell_of (kind_of mode e) pair row column))
      (worked (state_at mode z t) (channel_number e) (frame_of (frame_at mode a t) e) frame bit)
  unfolding coded_of
  coded-comes e z frame bit later pair row column lz f sent =
      let (lf, lb) = in-range mode (covered_of mode a) is e z t lz frame bit later pair row column f in
      comes-to-coded (state_at mode z t) (channel_number e) (frame_of (frame_at mode a t) e) frame bit (frame_bits (kind_of mode e)) 8 Half (is-valid z lz) is-older (bits-extended-is mode is e)
      (λ q. omega arith) (frames-extended-is e) ((right-at mode a t h).extended-right e ∙ length-extended (kind_of mode e))
      (meant-some mode (channel_number e) (three-le e) (frame_of (frame_at mode a t) e) (λ q. omega (arith, (right-at mode a t h).extended-right e, length-bits (kind_of mode e)))) lf (rate-extended e)
      (subst (λ (x : ℕ). bit < x) (coded-extended (kind_of mode e)) lb) _ _
      ((located-sheets mode is a t h).coded-bit e z frame bit later pair row column lz f sent
      ∙ ap (λ (x : ℕ). channel Half (frame_bits (kind_of mode e)) (bit_at (frame_of (frame_at mode a t) e)) (frame * x + bit)) (coded-extended (kind_of mode e)))
      (px-written mode (t % 2) frame bit is e ∙ written-to mode (covered_of mode a) is e z t frame bit later pair row column lz f)

pub worked-sheets : (mode : ℕ) → main_of mode ≡ Plain → (a : SenderRun mode) (t : ℕ) → t < count mode a → WorkedSheet mode a t
worked-sheets mode is a t h =
    record {
      p1-bit = p1-comes mode is a t h;
      pids-bit = pids-comes mode is a t h;
      coded-bit = coded-comes mode is a t h;
    }
