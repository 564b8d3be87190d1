-- The line of an input that is not taken, put part by part. Assumes nothing.
use mathlib.Core.Path.{◌≡◌}
use mathlib.Core.List.{List}
use Prim.Native.Nat.{ℕ, ◌≤◌}
use native.Mathlib.Omega.{arith}
use lib.ListN.{length, take}
use Rattle.io.specs.Counts.{IsPrefixLen}
use Rattle.text.specs.Letters.{ascii}
use Rattle.text.specs.Put.{Put}
use Rattle.text.proofs.Stored.{put_then}
use Rattle.messages.specs.Lines.{followed}
use Rattle.messages.proofs.Put.{at-start}
use Rattle.keys_step.specs.Summed.{not_taken}

pub put-not-taken : {a b c d e f : List ℕ} {m n o p end : ℕ} (run frame : ℕ) (why : List ℕ) → 93 ≤ length a → length why ≤ 32
    → Put a b 0 m 13 (ascii "refused: run ") → Put b c m n 21 (followed run (ascii " ")) → Put c d n o 6 (ascii "frame ")
    → Put d e o p 21 (followed frame (ascii ":"))
    → Put e f p end (length why) why → IsPrefixLen end f × (take end f ≡ not_taken run frame why)
unfolding not_taken
put-not-taken run frame why room short h i j k l = at-start (omega arith) (put_then h (put_then i (put_then j (put_then k l))))
