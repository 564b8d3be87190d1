-- From byte to byte of an input, what is printed and what is left to print. Assumes nothing.
use mathlib.Core.Path.{◌≡◌, refl, sym, ap, ap₂, ◌∙◌}
use Prim.Native.Nat.{ℕ, ◌+◌, ◌<◌, ◌≤◌}
use native.Mathlib.Numerals.{add-one}
use mathlib.Core.Bool.{Bool, true, false, cond, ◌||◌, or_assoc, or-false, true≢false}
use mathlib.Core.List.{List, [], ◌∷◌, ◌++◌, append_assoc, append-nil}
use borrow.Author.Tests.{ne_eqb}
use lib.Dec.{eqb}
use lib.ListN.{length, take, get_or}
use lib.Seq.{take_all, take-suc}
use Rattle.text.specs.Lines.{lines, joined}
use Rattle.linewise.specs.EachLine.{Printing, each_line}
use Rattle.linewise.specs.Going.{contains, begun, Going}

pub contains-snoc : (x : ℕ) (bytes : List ℕ) (b : ℕ) → contains x (bytes ++ (b ∷ [])) ≡ (contains x bytes || eqb b x)
unfolding contains
contains-snoc x [] b = or-false (eqb b x)
contains-snoc x (c ∷ bytes) b = ap (λ (t : Bool). eqb c x || t) (contains-snoc x bytes b) ∙ sym (or_assoc (eqb c x) (contains x bytes) (eqb b x))

-- the lines that begin with a byte that is no newline
continued : (t s : Bool) (b : ℕ) (rest : List ℕ) (ls : List (List ℕ)) → (t || s) ≡ false → (s ≡ false → joined b (lines rest) ≡ ls)
    → cond t ([] ∷ lines rest) (joined b (lines rest)) ≡ ls
continued true s b rest ls h f = absurd (true≢false h)
continued false s b rest ls h f = f h

ended : (bytes rest : List ℕ) → contains 10 bytes ≡ false → lines (bytes ++ (10 ∷ rest)) ≡ bytes ∷ lines rest
unfolding contains lines joined
ended [] rest h = refl
ended (b ∷ bytes) rest h = continued (eqb b 10) (contains 10 bytes) b (bytes ++ (10 ∷ rest)) _ h (λ g. ap (joined b) (ended bytes rest g))

last : (b : ℕ) (bytes : List ℕ) → contains 10 (b ∷ bytes) ≡ false → lines (b ∷ bytes) ≡ (b ∷ bytes) ∷ []
unfolding contains lines joined
last b [] h = continued (eqb b 10) false b [] _ h (λ g. refl)
last b (c ∷ bytes) h = continued (eqb b 10) (contains 10 (c ∷ bytes)) b (c ∷ bytes) _ h (λ g. ap (joined b) (last c bytes g))

quiet : (bytes : List ℕ) → begun bytes ≡ false → lines bytes ≡ []
unfolding begun lines
quiet [] h = refl
quiet (b ∷ bytes) h = absurd (true≢false h)

alone : (bytes : List ℕ) → begun bytes ≡ true → contains 10 bytes ≡ false → lines bytes ≡ bytes ∷ []
unfolding begun
alone [] h g = absurd (true≢false (sym h))
alone (b ∷ bytes) h g = last b bytes g

module _ {L : Type 0} (line_of : List ℕ → L) (printed : Printing) (output : List ℕ → List ℕ) where
  -- before the first byte, with the header printed
  pub first-line : {text : List ℕ} {line : L} (header : List ℕ) → ((input : List ℕ) → output input ≡ header ++ each_line printed 1 (lines input)) → text ≡ header
      → line ≡ line_of [] → Going line_of printed output [] text line 1
  unfolding contains
  first-line {text} header is e none = record {
    begins = [];
    plain = refl;
    reads = none;
    left = λ rest. is rest ∙ ap (λ (l : List ℕ). l ++ each_line printed 1 (lines rest)) (sym e);
  }

module _ {L : Type 0} {line_of : List ℕ → L} {printed : Printing} {output : List ℕ → List ℕ} {seen text : List ℕ} {line : L} {number : ℕ}
    (r : Going line_of printed output seen text line number) where
  -- a byte that ends no line
  pub longer : (b : ℕ) (next : L) → (b ≡ 10 → ⊥) → ((bytes : List ℕ) → line ≡ line_of bytes → next ≡ line_of (bytes ++ (b ∷ [])))
      → Going line_of printed output (seen ++ (b ∷ [])) text next number
  longer b next n grown = record {
    begins = r.begins ++ (b ∷ []);
    plain = contains-snoc 10 r.begins b ∙ ap₂ (λ (t u : Bool). t || u) r.plain (ne_eqb b 10 n);
    reads = grown r.begins r.reads;
    left = λ rest.
        ap output (append_assoc seen (b ∷ []) rest) ∙ r.left (b ∷ rest)
        ∙ ap (λ (l : List ℕ). text ++ each_line printed number (lines l)) (sym (append_assoc r.begins (b ∷ []) rest));
  }

  -- a newline, after which the line's meaning is printed
  pub ended-line : (b : ℕ) (next : L) (more : List ℕ) → b ≡ 10 → next ≡ line_of []
      → ((bytes : List ℕ) → line ≡ line_of bytes → more ≡ text ++ printed number bytes) → Going line_of printed output (seen ++ (b ∷ [])) more next (number + 1)
  unfolding contains each_line
  ended-line b next more e none told = record {
    begins = [];
    plain = refl;
    reads = none;
    left = λ rest.
        ap output (append_assoc seen (b ∷ []) rest) ∙ ap (λ (x : ℕ). output (seen ++ (x ∷ rest))) e ∙ r.left (10 ∷ rest)
        ∙ ap (λ (l : List (List ℕ)). text ++ each_line printed number l) (ended r.begins rest r.plain)
        ∙ sym (append_assoc text (printed number r.begins) (each_line printed (number + 1) (lines rest)))
        ∙ ap (λ (l : List ℕ). l ++ each_line printed (number + 1) (lines rest)) (sym (told r.begins r.reads));
  }

  -- the end of the input: no open line, or one to print
  whole : output seen ≡ text ++ each_line printed number (lines r.begins)
  whole = rw (append-nil, append-nil) at (r.left [])

  pub ended-input : ((bytes : List ℕ) → line ≡ line_of bytes → begun bytes ≡ false) → output seen ≡ text ++ []
  unfolding each_line
  ended-input none = whole ∙ ap (λ (l : List (List ℕ)). text ++ each_line printed number l) (quiet r.begins (none r.begins r.reads))

  pub ended-open : (more : List ℕ) → ((bytes : List ℕ) → line ≡ line_of bytes → begun bytes ≡ true)
      → ((bytes : List ℕ) → line ≡ line_of bytes → more ≡ printed number bytes) → output seen ≡ text ++ more
  unfolding each_line
  ended-open more some told =
      whole ∙ ap (λ (l : List (List ℕ)). text ++ each_line printed number l) (alone r.begins (some r.begins r.reads) r.plain)
      ∙ ap (λ (l : List ℕ). text ++ l) (append-nil (printed number r.begins) ∙ sym (told r.begins r.reads))

-- through a block: at its start, a byte on, and at its end
module _ {L : Type 0} {line_of : List ℕ → L} {printed : Printing} {output : List ℕ → List ℕ} (seen text : List ℕ) {line : L} {number : ℕ} where
  pub block_start : Going line_of printed output seen text line number → Going line_of printed output (seen ++ []) (text ++ []) line number
  block_start r = rw (append-nil, append-nil) r

  pub block_more : (block : List ℕ) (i : ℕ) → i < length block → Going line_of printed output (seen ++ take i block ++ (get_or block i 0 ∷ [])) text line number
      → Going line_of printed output (seen ++ take (i + 1) block) text line number
  block_more block i h r =
      rw (add-one, take-suc block i 0 h, ← append_assoc seen (take i block) (get_or block i 0 ∷ [])) r

  pub block-end : (block : List ℕ) (i : ℕ) → length block ≤ i → Going line_of printed output (seen ++ take i block) text line number
      → Going line_of printed output (seen ++ block) text line number
  block-end block i h r = rw (take_all i block h) at r
