-- House matter: what the programs say of a refusal behind its line, on standard error: the words of causes.tsv.
use Rattle.std.specs.Prelude.{ℕ, cond, List, [], ltb, get_or, length}
use Rattle.text.specs.Letters.{ascii}
use Rattle.cause_words.specs.Table.{causes}

-- of a number that stands for no cause
abbrev pub no_cause : List ℕ
no_cause = ascii "no such cause\n"

-- of the cause of this number
unfoldable pub words : (number : ℕ) → List ℕ
words number = cond (ltb number (length causes)) (get_or causes number []) no_cause
