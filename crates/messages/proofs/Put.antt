-- A line put part by part at the start of a buffer that is long enough. Assumes nothing.
use mathlib.Core.Path.{◌≡◌, sym, ap, ◌∙◌}
use mathlib.Core.Bool.{true, false}
use mathlib.Core.List.{List, ◌++◌}
use Prim.Native.Nat.{ℕ, ◌≤◌, min}
use native.Mathlib.Decide.{dec_lt}
use native.Mathlib.Omega.{arith}
use lib.ListN.{length, take, length-take}
use lib.Seq.{take_all}
use Rattle.io.specs.Counts.{IsPrefixLen}
use Rattle.io.proofs.Counting.{prefix_len_of_le}
use Rattle.text.specs.Letters.{ascii}
use Rattle.text.specs.Put.{Put}
use Rattle.text.proofs.Stored.{put-most, put-text, put_then}
use Rattle.cause_words.specs.Words.{words}
use Rattle.cause_words.specs.NoSheet.{begins, why}
use Rattle.messages.specs.Lines.{followed, goes_on, in_words, no_sheet, refusal}

-- a text at the start
pub at-start : {a b t : List ℕ} {end most : ℕ} → most ≤ length a → Put a b 0 end most t → IsPrefixLen end b × (take end b ≡ t)
at-start h p = (prefix_len_of_le _ _ (omega (arith, p.within, p.size)), p.holds)

pub put-line : {a b c d e f g : List ℕ} {m n o p q end : ℕ} (number place frame : ℕ)
    → Put a b 0 m 16 (ascii "refused: number ") → Put b c m n 21 (followed number (ascii " "))
    → Put c d n o 6 (ascii "place ") → Put d e o p 21 (followed place (ascii " "))
    → Put e f p q 6 (ascii "frame ") → Put f g q end 21 (followed frame (ascii "\n"))
    → Put a g 0 end 91 (refusal number place frame)
unfolding refusal
put-line number place frame h i j k l s = put_then h (put_then i (put_then j (put_then k (put_then l s))))

pub put-in-words : {a b c : List ℕ} {m end : ℕ} (number place frame : ℕ) → 251 ≤ length a → Put a b 0 m 91 (refusal number place frame)
    → Put b c m end 160 (words number) → IsPrefixLen end c × (take end c ≡ in_words number place frame)
unfolding in_words
put-in-words number place frame room h i = at-start room (put_then h i)

pub put-goes-on : {a b c : List ℕ} {m end : ℕ} (frame : ℕ) → 53 ≤ length a → Put a b 0 m 32 (ascii "refused: input goes on at frame ")
    → Put b c m end 21 (followed frame (ascii "\n"))
    → IsPrefixLen end c × (take end c ≡ goes_on frame)
unfolding goes_on
put-goes-on frame room h i = at-start room (put_then h i)

-- ---- why there is no sheet

first-bytes : (text : List ℕ) (most n : ℕ) → n ≡ min most (length text) → take n text ≡ take most text
first-bytes text most n e = elim (dec_lt most (length text)) [
  | yes l ↦ let same : n ≡ most = omega arith in ap (λ (k : ℕ). take k text) same
  | no l ↦ take_all n text (omega arith) ∙ sym (take_all most text (omega arith))
]

module _ (text : List ℕ) where
  pub of-a-sheet : (a : List ℕ) → begins (ascii "NO SHEET ") text ≡ false → IsPrefixLen 0 a × (take 0 a ≡ no_sheet text)
  unfolding no_sheet
  of-a-sheet a e = (prefix_len_of_le 0 a (omega arith), rw e)

  pub of_none : {a b c : List ℕ} {m n end : ℕ} → begins (ascii "NO SHEET ") text ≡ true → n ≡ min 91 (length text) → 251 ≤ length a
      → Put a b 0 m (length (take n text)) (take n text) → Put b c m end 160 (why text) → IsPrefixLen end c × (take end c ≡ no_sheet text)
  unfolding no_sheet
  of_none {n = n} e h room p q =
      let line = put-most {n = 91} (omega (arith, length-take n text)) (put-text (first-bytes text 91 n h) p) in
      rw e (at-start room (put_then line q))

  -- a line that has no more than 91 bytes is said whole
  pub said-whole : begins (ascii "NO SHEET ") text ≡ true → length text ≤ 91 → no_sheet text ≡ text ++ why text
  unfolding no_sheet
  said-whole e h = rw e (ap (λ (l : List ℕ). l ++ why text) (take_all 91 text h))
