-- For the code alone: where the parts of an L1 frame end in an input.
use Rattle.std.specs.Prelude.{ℕ, ◌+◌, ◌-◌, ◌≤◌, min, ◌≡◌}
use Rattle.runs.specs.MainChannels.{main_of, p1_len, p2_len}
use Rattle.runs.specs.Lengths.{pids_len}
use Rattle.run_input.specs.declared.inputs.Ends.{Ends}

-- a part of this size that starts at byte `from` of n bytes ends here
abbrev pub End : (from size n to : ℕ) → Type 0
End from size n to = (from ≤ to) × (to ≤ n) × (to ≡ from + min size (n - from))

-- the number, P1, PIDS, P2, P3 and P4, each behind the one before
pub record EndsIn (mode n3 n4 n : ℕ) (r : Ends) : Type 0 where
  pub number : End 0 1 n r.number
  pub p1 : End r.number (p1_len (main_of mode)) n r.p1
  pub pids : End r.p1 pids_len n r.pids
  pub p2 : End r.pids (p2_len (main_of mode)) n r.p2
  pub p3 : End r.p2 n3 n r.p3
  pub p4 : End r.p3 n4 n r.p4
