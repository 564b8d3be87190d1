-- The line of a restored frame, by the answer. Assumes nothing.
use mathlib.Core.Path.{◌≡◌, refl}
use mathlib.Core.List.{List, ◌++◌}
use Prim.Native.Nat.{ℕ, ◌*◌}
use native.Mathlib.Omega.{arith}
use lib.ListN.{length}
use Rattle.runs.specs.declared.Answer.{Answer}
use Rattle.runs.specs.declared.Answer.TheVariants.{NoFrameFits, Success}
use Rattle.runs.specs.Answers.{number_of}
use Rattle.text.specs.Letters.{ascii}
use Rattle.text.specs.Put.{Put}
use Rattle.text.proofs.Stored.{put-most, put-text, put_then}
use Rattle.celltext.specs.Found.{hexadecimal}
use Rattle.celltext.specs.Restored.{no_frame, several, told}

pub put-frame-line : {a b c : List ℕ} {x end : ℕ} (frame : List ℕ) → length frame ≡ 10 → Put a b 0 x (2 * length frame) (hexadecimal frame)
    → Put b c x end 1 (ascii "\n") → Put a c 0 end 21 (hexadecimal frame ++ ascii "\n")
put-frame-line frame n p q = put-most (omega arith) (put_then p q)

module _ (frame : List ℕ) where
  told-frame : (answer : Answer) → answer ≡ Success → hexadecimal frame ++ ascii "\n" ≡ told (number_of answer) frame
  unfolding told
  told-frame answer is = rw is

  told_none : (answer : Answer) → answer ≡ NoFrameFits → no_frame ≡ told (number_of answer) frame
  unfolding told
  told_none answer is = rw is

  told-several : (answer : Answer) → (answer ≡ Success → ⊥) → (answer ≡ NoFrameFits → ⊥) → several ≡ told (number_of answer) frame
  unfolding told
  told-several Success n m = absurd (n refl)
  told-several NoFrameFits n m = absurd (m refl)
  told-several answer n m = refl

  module _ (answer : Answer) {a b : List ℕ} {end : ℕ} where
    pub put-told-frame : answer ≡ Success → Put a b 0 end 21 (hexadecimal frame ++ ascii "\n") → Put a b 0 end 21 (told (number_of answer) frame)
    put-told-frame is p = put-text (told-frame answer is) p

    pub put-told-none : answer ≡ NoFrameFits → Put a b 0 end 14 no_frame → Put a b 0 end 21 (told (number_of answer) frame)
    put-told-none is p = put-most (omega arith) (put-text (told_none answer is) p)

    pub put-told-several : (answer ≡ Success → ⊥) → (answer ≡ NoFrameFits → ⊥) → Put a b 0 end 19 several → Put a b 0 end 21 (told (number_of answer) frame)
    put-told-several n m p = put-most (omega arith) (put-text (told-several answer n m) p)
