-- A place that the code found, in the definitions' words. Assumes nothing.
use mathlib.Core.Path.{◌≡◌}
use mathlib.Core.Option.{none, some}
use Prim.Native.Nat.{ℕ, ◌<◌, ◌≤◌}
use borrow.Author.Tests.{lt-ltb, le-ltb}
use Rattle.modes.specs.Sizes.{placed}

pub at_place : (n k : ℕ) → k < n → placed n k ≡ some k
at_place n k h = rw (lt-ltb k n h)

pub no_place : (n k : ℕ) → n ≤ k → placed n k ≡ none
no_place n k h = rw (le-ltb k n h)
