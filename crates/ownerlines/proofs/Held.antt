-- The bytes of an open line that are held: the first 4,096, which tell what is printed for it. Assumes nothing.
use mathlib.Core.Path.{◌≡◌, refl, sym, ap, ◌∙◌}
use Prim.Native.Nat.{ℕ, ◌+◌, ◌<◌, ◌≤◌, min}
use mathlib.Core.Bool.{Bool, true, false}
use mathlib.Core.List.{List, [], ◌∷◌, ◌++◌}
use native.Mathlib.Numerals.{add-one}
use native.Mathlib.Omega.{arith}
use borrow.Author.Tests.{lt-ltb, le-ltb, ltb-true, ltb-false}
use lib.Dec.{ltb}
use lib.ListN.{length, length-append, length-take, set, take}
use lib.Seq.{length-take-le, take_all, take-append-le, take-suc-set}
use Rattle.text.specs.Lines.{lines}
use Rattle.text.specs.Refused.{refused}
use Rattle.linewise.specs.EachLine.{each_line}
use Rattle.linewise.specs.Going.{begun}
use Rattle.sheettext.specs.Owners.{owner_line}
use Rattle.ownerlines.specs.Printed.{output, printed}
use Rattle.ownerlines.specs.Running.{held_of}

-- ---- a buffer of k bytes, of which n are the first of a line

module _ (k : ℕ) (line bytes : List ℕ) (n : ℕ) (size : length line ≡ k) (l : n ≤ k) (e : take n line ≡ take k bytes) where
  -- as many as the line has, or k
  held-length : n ≡ min k (length bytes)
  held-length = sym (length-take-le n line (omega arith)) ∙ ap length e ∙ length-take k bytes

  more : (b : ℕ) → n < k → take (n + 1) (set line n b) ≡ take k (bytes ++ (b ∷ []))
  more b h =
      let short : length bytes < k = omega (arith, held-length) in
      let whole : take k bytes ≡ bytes = take_all k bytes (omega arith) in
      let longer : take k (bytes ++ (b ∷ [])) ≡ bytes ++ (b ∷ []) = take_all k (bytes ++ (b ∷ [])) (omega (arith, length-append bytes (b ∷ []))) in
      rw (add-one) (take-suc-set line n b (omega arith)) ∙ ap (λ (t : List ℕ). t ++ (b ∷ [])) (e ∙ whole) ∙ sym longer

  full : (b : ℕ) → k ≤ n → take n line ≡ take k (bytes ++ (b ∷ []))
  full b h = e ∙ sym (take-append-le k bytes (b ∷ []) (omega (arith, held-length)))

none : (text : List ℕ) → length text ≡ 0 → begun text ≡ false
unfolding begun
none [] h = refl
none (b ∷ text) h = absurd (omega arith)

some : (text : List ℕ) → 0 < length text → begun text ≡ true
unfolding begun
some [] h = absurd (omega arith)
some (b ∷ text) h = refl

-- ---- the buffer of 4,096 bytes

module _ (line bytes : List ℕ) (n : ℕ) (size : length line ≡ 4096) (l : n ≤ 4096) (e : take n line ≡ held_of bytes) where
  pub held_more : (b : ℕ) → n < 4096 → take (n + 1) (set line n b) ≡ held_of (bytes ++ (b ∷ []))
  unfolding held_of
  held_more b h = more 4096 line bytes n size l e b h

  pub held-full : (b : ℕ) → 4096 ≤ n → take n line ≡ held_of (bytes ++ (b ∷ []))
  unfolding held_of
  held-full b h = full 4096 line bytes n size l e b h

  held-count : n ≡ min 4096 (length bytes)
  unfolding held_of
  held-count = held-length 4096 line bytes n size l e

  -- nothing is held of a line that has no bytes, and of no other
  pub held_none : n ≡ 0 → begun bytes ≡ false
  held_none z = none bytes (omega (arith, held-count))

  pub held-some : (n ≡ 0 → ⊥) → begun bytes ≡ true
  held-some z = some bytes (omega (arith, held-count, z))

pub held-empty : [] ≡ held_of []
unfolding held_of
held-empty = refl

-- ---- what is printed

too_long : (mode number : ℕ) (text : List ℕ) → 4096 ≤ length text → printed mode number text ≡ refused number
unfolding printed
too_long mode number text h = rw (le-ltb (length text) 4096 h)

-- by the bytes that are held
pub printed-held : (mode number : ℕ) (bytes : List ℕ) → printed mode number (held_of bytes) ≡ printed mode number bytes
unfolding held_of
printed-held mode number bytes = go (ltb (length bytes) 4096) refl
  where
    go : (t : Bool) → ltb (length bytes) 4096 ≡ t → printed mode number (take 4096 bytes) ≡ printed mode number bytes
    go true e = ap (printed mode number) (take_all 4096 bytes (omega (arith, ltb-true (length bytes) 4096 e)))
    go false e =
        let h : 4096 ≤ length bytes = ltb-false (length bytes) 4096 e in
        too_long mode number (take 4096 bytes) (omega (arith, length-take 4096 bytes)) ∙ sym (too_long mode number bytes h)

module _ (mode number : ℕ) (line : List ℕ) (n : ℕ) (size : length line ≡ 4096) where
  pub printed-short : n < 4096 → owner_line mode number (take n line) ≡ printed mode number (take n line)
  unfolding printed
  printed-short h = sym (rw (lt-ltb (length (take n line)) 4096 (omega (arith, length-take-le n line (omega arith)))))

  pub printed-long : n ≤ 4096 → 4096 ≤ n → refused number ≡ printed mode number (take n line)
  unfolding printed
  printed-long l h = sym (rw (le-ltb (length (take n line)) 4096 (omega (arith, length-take-le n line (omega arith)))))

-- an input has no head
pub all_lines : (mode : ℕ) (input : List ℕ) → output mode input ≡ [] ++ each_line (printed mode) 1 (lines input)
unfolding output
all_lines mode input = refl
