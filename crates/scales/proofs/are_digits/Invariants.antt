-- `are_digits` meets its contract. The loop's invariant: the text is digits alone where those from the byte on are. Assumes nothing.
use Rattle.std.proofs.Common.{◌≡◌, drop}
use Rattle.text.specs.Numbers.{digits_alone}
use Rattle.scales.proofs.are_digits.Given as goal

abbrev pub invariant-loop-byte : goal.invariant-loop-byte
invariant-loop-byte l = digits_alone l.text ≡ digits_alone (drop l.byte-index l.text)
