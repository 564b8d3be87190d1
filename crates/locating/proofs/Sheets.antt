-- What the two locators say of a coded bit holds in every sender's run in the modes to which they keep: the finders name that bit in that cell, and `sheets`
-- says that it stands there. Assumes nothing.
use mathlib.Core.Path.{◌≡◌, sym, ap, ◌∙◌}
use Prim.Native.Nat.{ℕ, ◌+◌, ◌-◌, ◌*◌, ◌<◌}
use native.Mathlib.Omega.{arith}
use Rattle.std.specs.Prelude.{Ok}
use Rattle.bits.specs.Bits.{bit_at}
use Rattle.interleaving.specs.declared.Position.{Position}
use Rattle.runs.specs.declared.Extended.{Extended}
use Rattle.runs.specs.declared.Main.TheVariants.{Plain}
use Rattle.runs.specs.MainChannels.{main_of}
use Rattle.runs.specs.Lengths.{kind_of}
use Rattle.runs.specs.Chain.{coded_of}
use Rattle.runs.specs.Lent.{frame_of, matrix_of}
use Rattle.runs.specs.Starting.{state_at}
use Rattle.runs.specs.Runs.{SenderRun, count, frame_at, matrices_at}
use Rattle.runs.proofs.Sender.{covered_of}
use Rattle.queries.specs.declared.finder.Found.TheVariants.{P1, Pids}
use Rattle.queries.specs.Finder.{found}
use Rattle.queries.specs.FinderPX.{cell_of, frame_coded}
use Rattle.queries.specs.Sheets.{channel_number}
use Rattle.queries.proofs.Sheets.{sheets}
use Rattle.locating.specs.Locator.{at_cell, located}
use Rattle.locating.specs.LocatorPX.{at_cell as at_cell-px, located_px}
use Rattle.locating.specs.BothWays.{found_again}
use Rattle.locating.specs.Sheets.{LocatedSheet}
use Rattle.locating.proofs.AgainPM.{both_ways}
use Rattle.locating.proofs.AgainPX.{both-ways-px}
use Rattle.locating.proofs.CasesPM.{p1-range, pids-range}

-- the finder names the bit that is located in a cell of PM
p1-found : (bit row column : ℕ) (p : Position) → located 1 0 bit ≡ Ok (at_cell p row column) → found row column ≡ Ok (P1 bit)
p1-found bit row column p e = sym (ap found_again e) ∙ both_ways.p1-there bit (p1-range bit row column p e)

pids-found : (frame bit row column : ℕ) (p : Position) → located 2 frame bit ≡ Ok (at_cell p row column) → found row column ≡ Ok (Pids frame bit)
pids-found frame bit row column p e =
    let (lf, lb) = pids-range frame bit row column p e in
    sym (ap found_again e) ∙ both_ways.pids-there frame bit lf lb

module _ (mode : ℕ) (is : main_of mode ≡ Plain) (a : SenderRun mode) (t : ℕ) where
  coded_in : (e : Extended) (z frame bit n pair row column : ℕ) → z < 8
      → located_px (state_at mode z t) (channel_number e) frame bit ≡ Ok (at_cell-px n pair row column)
      → t + n < count mode a
      → bit_at (matrix_of mode (matrices_at mode a (t + n)) e) (cell_of (kind_of mode e) pair row column)
      ≡ coded_of (kind_of mode e) (frame_of (frame_at mode a t) e) (frame * frame_coded (kind_of mode e) + bit)
  coded_in e z frame bit n pair row column lz f h =
      let there = (both-ways-px mode (covered_of mode a) is e).there z z t frame bit n pair row column lz lz f in
      let same : t + n - n ≡ t = omega arith in
      ((sheets mode is a (t + n) h).coded-cell e z pair row column n frame bit lz there).1
      ∙ ap (λ (u : ℕ). coded_of (kind_of mode e) (frame_of (frame_at mode a u) e) (frame * frame_coded (kind_of mode e) + bit)) same

pub located-sheets : (mode : ℕ) → main_of mode ≡ Plain → (a : SenderRun mode) (t : ℕ) → t < count mode a → LocatedSheet mode a t
located-sheets mode is a t h =
    record {
      p1-bit = λ bit row column p e. (sheets mode is a t h).p1-cell row column bit (p1-found bit row column p e);
      pids-bit = λ frame bit row column p e. (sheets mode is a t h).pids-cell row column frame bit (pids-found frame bit row column p e);
      coded-bit = coded_in mode is a t;
    }
