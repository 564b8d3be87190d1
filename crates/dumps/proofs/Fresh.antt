-- The memory of the code's own, which holds zeros, is of the lengths in the definition. Assumes nothing.
use Prim.Native.Nat.{ℕ, ◌≤◌}
use mathlib.Core.Path.{◌≡◌}
use mathlib.Core.List.{List}
use native.Mathlib.Omega.{arith}
use lib.ListN.{get_or, take, replicate}
use Rattle.runs.specs.declared.Extended.TheVariants.{P3, P4}
use Rattle.runs.specs.declared.Main.{Main}
use Rattle.runs.specs.declared.Main.TheVariants.{Plain, Mp5, Mp6}
use Rattle.runs.specs.MainChannels.{main_of, delay_len}
use Rattle.runs.specs.Lengths.{kind_of, reader_len}
use Rattle.runs.specs.Starting.{zeros}
use Rattle.calls.specs.Called.{memory}
use Rattle.modes.specs.Sizes.{wanted}
use Rattle.runs.proofs.Bounds.{matrix-le}
use Rattle.layout.proofs.Cut.{entry-is}
use Rattle.layout.proofs.Zeros.{zeros_of}

delay-small : (k : Main) → delay_len k ≤ 27648
delay-small Plain = omega arith
delay-small Mp5 = omega arith
delay-small Mp6 = omega arith

module _ (mode : ℕ) (want : List ℕ) (lengths : want ≡ wanted mode (reader_len (kind_of mode P3)) (reader_len (kind_of mode P4))) where
  pub room-memory3 : get_or want 9 0 ≤ 27648
  room-memory3 = let e : get_or want 9 0 ≡ reader_len (kind_of mode P3) = entry-is mode _ _ want lengths 9 in omega (arith, matrix-le (kind_of mode P3))

  pub room-memory4 : get_or want 10 0 ≤ 27648
  room-memory4 = let e : get_or want 10 0 ≡ reader_len (kind_of mode P4) = entry-is mode _ _ want lengths 10 in omega (arith, matrix-le (kind_of mode P4))

  pub room-delay : get_or want 11 0 ≤ 27648
  room-delay = let e : get_or want 11 0 ≡ delay_len (main_of mode) = entry-is mode _ _ want lengths 11 in omega (arith, delay-small (main_of mode))

  -- the memory that is lent to the reader
  pub memory-clear : memory (take (get_or want 9 0) (replicate 27648 0)) (take (get_or want 10 0) (replicate 27648 0)) (take (get_or want 11 0) (replicate 27648 0))
      ≡ zeros reader_len mode
  memory-clear =
      let q3 = zeros_of (get_or want 9 0) 27648 (reader_len (kind_of mode P3)) (entry-is mode _ _ want lengths 9) room-memory3 in
      let q4 = zeros_of (get_or want 10 0) 27648 (reader_len (kind_of mode P4)) (entry-is mode _ _ want lengths 10) room-memory4 in
      let qd = zeros_of (get_or want 11 0) 27648 (delay_len (main_of mode)) (entry-is mode _ _ want lengths 11) room-delay in
      λ i. memory (q3 i) (q4 i) (qd i)
