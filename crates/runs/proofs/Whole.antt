-- Demand 3: the theorem about whole runs. Assumes nothing.
use Prim.Native.Nat.{ℕ}
use native.Mathlib.Nat.{zero-add}
use Rattle.runs.specs.WholeRuns.{WholeRuns}
use Rattle.runs.proofs.Sender.{as-defined-is}
use Rattle.runs.proofs.Fixed.{differ-extended-is, fixed-extended-is, fixed-is, number-fixed, pm-fixed}
use Rattle.runs.proofs.Readable.{can-read, read_all}
use Rattle.runs.proofs.Sendable.{can-send}
use Rattle.runs.proofs.NoData.{runs-alike}

pub whole-runs : (mode : ℕ) → WholeRuns mode
whole-runs mode =
    record {
      as-defined = as-defined-is mode;
      alike = runs-alike mode;
      fixed = fixed-is mode;
      fixed-extended = fixed-extended-is mode;
      differ = λ a b t ha hb ne e. ne (pm-fixed mode a b t ha hb e);
      differ-extended = differ-extended-is mode;
      differ-number = λ a b t ha hb ne e. ne (number-fixed mode a b t ha hb e);
      read_back = λ a b gs h.
          let got = read_all mode a b gs h in
          (got.as_many, λ t l. rw (zero-add t) at (got.each t l));
      readable = can-read mode;
      sendable = can-send mode;
    }
