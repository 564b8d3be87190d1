-- By cases, where the goal names what is taken apart: a fact of each extended channel, and of each number. Assumes nothing.
use Rattle.std.specs.Prelude.{ℕ, zero, suc}
use Rattle.runs.specs.declared.Extended.{Extended}
use Rattle.runs.specs.declared.Extended.TheVariants.{P3, P4}

pub each_extended : (P : Extended → Type 0) → P P3 → P P4 → (e : Extended) → P e
each_extended P a b P3 = a
each_extended P a b P4 = b

pub each_number : (P : ℕ → Type 0) → P zero → ((k : ℕ) → P (suc k)) → (n : ℕ) → P n
each_number P a b zero = a
each_number P a b (suc k) = b k
