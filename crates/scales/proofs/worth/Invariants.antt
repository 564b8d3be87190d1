-- `worth` meets its contract. The loop's invariant: the digits are worth the number so far, moved to its place, and those that follow. Assumes nothing.
use Rattle.std.proofs.Common.{◌≡◌, ◌+◌, ◌-◌, ◌*◌, ◌^◌, ◌<◌, ◌≤◌, true, length, drop}
use Rattle.text.specs.Numbers.{digits_alone, value}
use Rattle.scales.proofs.worth.Given as goal

abbrev pub invariant-loop-byte : goal.invariant-loop-byte
invariant-loop-byte l =
    (length l.text ≤ 16) × (l.n < 10 ^ l.byte-index) × (digits_alone (drop l.byte-index l.text) ≡ true)
    × (value l.text ≡ l.n * 10 ^ (length l.text - l.byte-index) + value (drop l.byte-index l.text))
