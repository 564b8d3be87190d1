-- `decimal` meets its contract. The loop's invariant: the text from the byte on, after the number so far, is the whole text. Assumes nothing.
use Rattle.std.proofs.Common.{◌≡◌, ◌≤◌, drop}
use Rattle.operands.specs.Operands.{after, limit, operand_of}
use Rattle.operands.proofs.decimal.Given as goal

abbrev pub invariant-loop-byte : goal.invariant-loop-byte
invariant-loop-byte l = (l.n ≤ limit) × (operand_of l.text ≡ after l.n (drop l.byte-index l.text))
