-- `separator` meets its contract. Assumes nothing.
use mathlib.Core.Path.{sym, ap}
use mathlib.Core.Bool.{Bool, cond}
use Prim.Native.Nat.{ℕ}
use borrow.Author.Tests.{lt-ltb, le-ltb}
use Rattle.placelines.proofs.printing.separator.Goals as goal

pub returns-then-k-lt15 : goal.returns-then-k-lt15
returns-then-k-lt15 c = sym (ap (λ (t : Bool). cond {A = ℕ} t 32 10) (lt-ltb _ 15 c.if-k-lt15.true))

pub returns-else-k-lt15 : goal.returns-else-k-lt15
returns-else-k-lt15 c = sym (ap (λ (t : Bool). cond {A = ℕ} t 32 10) (le-ltb _ 15 c.if-k-lt15.false))
