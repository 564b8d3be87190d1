-- A line of sixteen numbers, 0 to 255, with one space between two: the eight shares, then the eight counts of messages waiting.
use Rattle.std.specs.Prelude.{ℕ, zero, suc, ◌+◌, Bool, true, cond, ◌&&◌, List, ltb, Option, Some, None, is_some, unwrap_or}
use Rattle.bits.specs.Listed.{listed}
use Rattle.operands.specs.Operands.{operand_of}
use Rattle.text.specs.Lines.{after, before, space}

-- the text after the first k spaces
unfoldable pub after_spaces : ℕ → List ℕ → List ℕ
after_spaces zero line = line
after_spaces (suc k) line = after space (after_spaces k line)

-- word k of the sixteen: the last is all that is left, so that nothing can follow it
unfoldable pub word_at : ℕ → List ℕ → List ℕ
word_at k line = cond (ltb k 15) (before space (after_spaces k line)) (after_spaces k line)

-- a number that a byte holds
abbrev pub value_of : Option ℕ → Option ℕ
value_of (Some n) = cond (ltb n 256) (Some n) None
value_of None = None

unfoldable pub number_at : ℕ → List ℕ → Option ℕ
number_at k line = value_of (operand_of (word_at k line))

-- the first k words are numbers from 0 to 255
unfoldable pub is_read : ℕ → List ℕ → Bool
is_read zero line = true
is_read (suc k) line = is_read k line && is_some (number_at k line)

-- the eight numbers from number k on; 256 stands for what is none
unfoldable pub eight_at : ℕ → List ℕ → List ℕ
eight_at k line = listed 8 (λ d. unwrap_or (number_at (k + d) line) 256)
