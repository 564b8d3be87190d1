-- What begins as a sheet is one: of an input whose L1 frames are not all sent nothing is printed that begins with its head. Assumes nothing.
use Rattle.std.specs.Prelude.{Option}
use mathlib.Core.Path.{◌≡◌, refl, sym, ap, ◌∙◌}
use mathlib.Core.Bool.{Bool, true, false}
use mathlib.Core.List.{List, [], ◌∷◌, ◌++◌}
use Prim.Native.Nat.{ℕ, suc, ◌*◌, ◌<◌, ◌≤◌}
use native.Mathlib.Omega.{arith}
use lib.Dec.{eqb, leb, ltb}
use lib.ListN.{get_or, length}
use borrow.Author.Tests.{eqb-true, eqb-false, leb-true, leb-false, ltb-true, ltb-false}
use Rattle.bits.specs.Bits.{Bytes}
use Rattle.runs.specs.declared.Answer.{Answer}
use Rattle.runs.specs.declared.Extended.TheVariants.{P3, P4}
use Rattle.runs.specs.Answers.{number_of}
use Rattle.runs.specs.Runs.{Call, Every}
use Rattle.runs.proofs.Answered.{not-success}
use Rattle.text.specs.Lines.{lines}
use Rattle.sheetlines.specs.declared.entries.Entry.{Entry}
use Rattle.sheettext.specs.Texts.{value_in}
use Rattle.sheetworks.specs.Works.{work_text}
use Rattle.sheetlists.specs.Lists.{answers, valued}
use Rattle.sheetinputs.specs.Inputs.{behind, carried, empty_line, frame_size, list_in, named, older}
use Rattle.sheetinputs.specs.Run.{sent}
use Rattle.sheetruns.specs.Told.{no_frame, told}
use Rattle.sheets.specs.Sheet.{no_count, no_list, no_long, no_long_list, no_mode, no_short, no_without, sheet_for, sheet_of}
use Rattle.idealsheets.specs.Ideal.{Sent, ideal_sheet}
use Rattle.idealsheets.proofs.Ideal.{whole-sheet}
use Rattle.sheetruns.proofs.Loop.{on-success}
use Rattle.sheets.proofs.Texts.{by_count, by_frames, by-list, by-long, by_mode, by-open, by-short, by-surplus, by-without}

-- the first byte of a text
abbrev first : List ℕ → ℕ
first text = get_or text 0 0

-- a text that begins with N does not begin with M
not-begun : (none text : List ℕ) → none ≡ text → first none ≡ 78 → first text ≡ 77 → ⊥
not-begun none text e n m = let q : first none ≡ first text = ap first e in omega arith

frame-none : (t : ℕ) (a : Answer) → first (no_frame t a) ≡ 78
unfolding no_frame
frame-none t a = refl

mode-none : first no_mode ≡ 78
unfolding no_mode
mode-none = refl

without-none : first no_without ≡ 78
unfolding no_without
without-none = refl

count_none : first no_count ≡ 78
unfolding no_count
count_none = refl

long-none : first no_long_list ≡ 78
unfolding no_long_list
long-none = refl

list-none : first no_list ≡ 78
unfolding no_list
list-none = refl

short_none : (want : ℕ) → first (no_short want) ≡ 78
unfolding no_short
short_none want = refl

surplus-none : (want : ℕ) → first (no_long want) ≡ 78
unfolding no_long
surplus-none want = refl

module _ (working : Option Entry → List ℕ) (mode count : ℕ) (ls : List (List ℕ)) where
  told-on : (t : ℕ) (text : List ℕ) (c : Call) (cs : List Call) → number_of c.result.answer ≡ 0
      → told working mode count ls t text (c ∷ cs) ≡ told working mode count ls (suc t) (text ++ answers (valued working count (value_in c.result.lent.signal.matrices)) mode count t ls) cs
  unfolding told
  told-on t text c cs e = on-success c.result.answer _ _ e

  told-stops : (t : ℕ) (text : List ℕ) (c : Call) (cs : List Call) → (number_of c.result.answer ≡ 0 → ⊥) → no_frame t c.result.answer ≡ told working mode count ls t text (c ∷ cs)
  unfolding told
  told-stops t text c cs ne = sym (not-success c.result.answer _ _ (λ z. ne (ap number_of z)))

  all-sent : (cs : List Call) (t : ℕ) (text : List ℕ) → first (told working mode count ls t text cs) ≡ 77 → Every (λ (c : Call). number_of c.result.answer ≡ 0) cs
  all-sent [] t text e = tt
  all-sent (c ∷ cs) t text e =
      go (eqb (number_of c.result.answer) 0) refl (all-sent cs (suc t) (text ++ answers (valued working count (value_in c.result.lent.signal.matrices)) mode count t ls))
    where
      go : (b : Bool) → eqb (number_of c.result.answer) 0 ≡ b
          → (first (told working mode count ls (suc t) (text ++ answers (valued working count (value_in c.result.lent.signal.matrices)) mode count t ls) cs) ≡ 77 → Every (λ (c : Call). number_of c.result.answer ≡ 0) cs)
          → Every (λ (c : Call). number_of c.result.answer ≡ 0) (c ∷ cs)
      go true q later = let z = eqb-true _ _ q in (z, later (ap first (sym (told-on t text c cs z)) ∙ e))
      go false q later = absurd (not-begun _ _ (told-stops t text c cs (eqb-false _ _ q)) (frame-none t c.result.answer) e)

module _ (mode n : ℕ) (without3 without4 work : Bool) (input : List ℕ) (begun : get_or (sheet_of mode n without3 without4 work input) 0 0 ≡ 77) where
  abbrev n3 : ℕ
  n3 = carried mode P3 without3

  abbrev n4 : ℕ
  n4 = carried mode P4 without4

  abbrev want : ℕ
  want = n * frame_size mode n3 n4

  none_here : (none : List ℕ) → none ≡ sheet_of mode n without3 without4 work input → first none ≡ 78 → ⊥
  none_here none e k = not-begun _ _ e k begun

  module _ (o : older mode ≡ true) (c : named mode without3 without4 ≡ true) (k : n ≤ 64) (l : empty_line true input < 4096) (h : empty_line true input < length input) where
    listed : sheet_for mode n without3 without4 work n3 n4 (list_in input) (behind input) ≡ sheet_of mode n without3 without4 work input
    listed = by-list mode n without3 without4 work input o c k l h

    by_size : (a b : Bool) → ltb (length (behind input)) want ≡ a → ltb want (length (behind input)) ≡ b → length (behind input) ≡ want
    by_size true b e f =
        absurd (none_here _ (by-short mode n without3 without4 work n3 n4 (list_in input) (behind input) want refl (ltb-true _ _ e) ∙ listed) (short_none want))
    by_size false true e f =
        absurd (none_here _ (by-surplus mode n without3 without4 work n3 n4 (list_in input) (behind input) want refl (ltb-true _ _ f) ∙ listed) (surplus-none want))
    by_size false false e f = omega (arith, ltb-false (length (behind input)) want e, ltb-false want (length (behind input)) f)

    listed-sent : Sent mode n without3 without4 input
    listed-sent =
        let size = by_size (ltb (length (behind input)) want) (ltb want (length (behind input))) refl refl in
        let told_is = by_frames mode n without3 without4 work n3 n4 (list_in input) (behind input) want refl size ∙ listed in
        record {
          mode-older = o;
          channels-named = c;
          count_small = k;
          list-short = l;
          list-ended = h;
          whole = size;
          each = all-sent (work_text work mode n3 n4 (behind input)) mode n (lines (list_in input)) (sent mode n n3 n4 (behind input)) 0 _ (ap first told_is ∙ begun);
        }

  pub begun-sent : Sent mode n without3 without4 input
  begun-sent = go (older mode) (named mode without3 without4) (leb n 64) (ltb (empty_line true input) 4096) (ltb (empty_line true input) (length input)) refl refl refl refl refl
    where
      go : (a b c d e : Bool) → older mode ≡ a → named mode without3 without4 ≡ b → leb n 64 ≡ c → ltb (empty_line true input) 4096 ≡ d
          → ltb (empty_line true input) (length input) ≡ e → Sent mode n without3 without4 input
      go false b c d e o m k l h = absurd (none_here _ (by_mode mode n without3 without4 work input o) mode-none)
      go true false c d e o m k l h = absurd (none_here _ (by-without mode n without3 without4 work input o m) without-none)
      go true true false d e o m k l h = absurd (none_here _ (by_count mode n without3 without4 work input o m (leb-false _ _ k)) count_none)
      go true true true false e o m k l h = absurd (none_here _ (by-long mode n without3 without4 work input o m (leb-true _ _ k) (ltb-false _ _ l)) long-none)
      go true true true true false o m k l h =
          absurd (none_here _ (by-open mode n without3 without4 work input o m (leb-true _ _ k) (ltb-true _ _ l) (ltb-false _ _ h)) list-none)
      go true true true true true o m k l h = listed-sent o m (leb-true _ _ k) (ltb-true _ _ l) (ltb-true _ _ h)

  -- whatever the input holds: a text that begins with M is the sheet of its transfer frames
  pub begun-ideal : Bytes input → sheet_of mode n without3 without4 work input ≡ ideal_sheet mode n without3 without4 work input
  begun-ideal small = whole-sheet mode n without3 without4 input small begun-sent work
