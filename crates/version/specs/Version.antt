-- The number of the C library's interface: one more with every change of a call, a place, a length or a field of a word.
use Rattle.std.specs.Prelude.{ℕ}

abbrev pub version : ℕ
version = 3
