-- Which text the sheet is, case by case. Assumes nothing.
use mathlib.Core.Path.{◌≡◌, sym, ap, ap₂, ◌∙◌}
use mathlib.Core.Bool.{Bool, true, false}
use mathlib.Core.List.{List, ◌++◌}
use Prim.Native.Nat.{ℕ, ◌+◌, ◌-◌, ◌*◌, ◌<◌, ◌≤◌}
use native.Mathlib.Omega.{arith}
use lib.ListN.{length, take, drop, length-drop}
use lib.Seq.{take_all}
use borrow.Author.Tests.{le-leb, lt-leb, lt-ltb, le-ltb}
use Rattle.runs.specs.declared.Extended.TheVariants.{P3, P4}
use Rattle.text.specs.Lines.{lines}
use Rattle.sheettext.specs.Texts.{head}
use Rattle.sheetworks.specs.Works.{work_text}
use Rattle.sheetlists.specs.Lists.{refusals}
use Rattle.sheetinputs.specs.Inputs.{behind, carried, empty_at, empty_line, frame_size, list_in, named, older}
use Rattle.sheetinputs.specs.Run.{sent}
use Rattle.sheetruns.specs.Told.{told}
use Rattle.sheets.specs.Sheet.{no_count, no_list, no_long, no_long_list, no_mode, no_short, no_without, sheet_for, sheet_of}

module _ (mode count : ℕ) (without3 without4 work : Bool) (input : List ℕ) where
  abbrev S : List ℕ
  S = sheet_of mode count without3 without4 work input

  pub by_mode : older mode ≡ false → no_mode ≡ S
  unfolding sheet_of
  by_mode o = sym (rw o)

  pub by-without : older mode ≡ true → named mode without3 without4 ≡ false → no_without ≡ S
  unfolding sheet_of
  by-without o n = sym (rw (o, n))

  pub by_count : older mode ≡ true → named mode without3 without4 ≡ true → 64 < count → no_count ≡ S
  unfolding sheet_of
  by_count o n k = sym (rw (o, n, lt-leb _ _ k))

  module _ (o : older mode ≡ true) (n : named mode without3 without4 ≡ true) (k : count ≤ 64) where
    pub by-long : 4096 ≤ empty_line true input → no_long_list ≡ S
    unfolding sheet_of
    by-long h = sym (rw (o, n, le-leb _ _ k, le-ltb _ _ h))

    pub by-open : empty_line true input < 4096 → length input ≤ empty_line true input → no_list ≡ S
    unfolding sheet_of
    by-open l h = sym (rw (o, n, le-leb _ _ k, lt-ltb _ _ l, le-ltb _ _ h))

    pub by-list : empty_line true input < 4096 → empty_line true input < length input
        → sheet_for mode count without3 without4 work (carried mode P3 without3) (carried mode P4 without4) (list_in input) (behind input) ≡ S
    unfolding sheet_of
    by-list l h = sym (rw (o, n, le-leb _ _ k, lt-ltb _ _ l, lt-ltb _ _ h))

    -- as parts of the input
    pub by_parts : (e s from : ℕ) → e ≡ empty_line true input → s ≡ empty_at (drop e input) → from ≡ e + s → e < 4096 → e < length input
        → sheet_for mode count without3 without4 work (carried mode P3 without3) (carried mode P4 without4) (take e input) (take (length input - from) (drop from input)) ≡ S
    by_parts e s from q r f l h =
        let place : from ≡ empty_line true input + empty_at (drop (empty_line true input) input) = f ∙ ap₂ (λ (x y : ℕ). x + y) q (r ∙ ap (λ (j : ℕ). empty_at (drop j input)) q) in
        ap₂ (λ (x y : List ℕ). sheet_for mode count without3 without4 work (carried mode P3 without3) (carried mode P4 without4) x y) (ap (λ (j : ℕ). take j input) q)
        (take_all (length input - from) (drop from input) (omega (arith, length-drop from input)) ∙ ap (λ (j : ℕ). drop j input) place)
        ∙ by-list (omega arith) (omega arith)

module _ (mode count : ℕ) (without3 without4 work : Bool) (n3 n4 : ℕ) (list bytes : List ℕ) (want : ℕ) (e : want ≡ count * frame_size mode n3 n4) where
  pub by-short : length bytes < want → no_short want ≡ sheet_for mode count without3 without4 work n3 n4 list bytes
  unfolding sheet_for
  by-short h = ap no_short e ∙ sym (rw (lt-ltb _ _ (wanted h)))
    where
      wanted : length bytes < want → length bytes < count * frame_size mode n3 n4
      wanted h = omega arith

  pub by-surplus : want < length bytes → no_long want ≡ sheet_for mode count without3 without4 work n3 n4 list bytes
  unfolding sheet_for
  by-surplus h = ap no_long e ∙ sym (rw (le-ltb _ _ (least h), lt-ltb _ _ (more h)))
    where
      least : want < length bytes → count * frame_size mode n3 n4 ≤ length bytes
      least h = omega arith

      more : want < length bytes → count * frame_size mode n3 n4 < length bytes
      more h = omega arith

  pub by_frames : length bytes ≡ want
      → told (work_text work mode n3 n4 bytes) mode count (lines list) 0 (head mode count without3 without4 work ++ refusals mode count 1 (lines list)) (sent mode count n3 n4 bytes) ≡ sheet_for mode count without3 without4 work n3 n4 list bytes
  unfolding sheet_for
  by_frames h = sym (rw (le-ltb (length bytes) (count * frame_size mode n3 n4) (omega arith), le-ltb (count * frame_size mode n3 n4) (length bytes) (omega arith)))
