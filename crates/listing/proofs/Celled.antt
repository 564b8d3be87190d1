-- A cell's line put part by part. Assumes nothing.
use mathlib.Core.Path.{◌≡◌}
use Prim.Native.Nat.{ℕ, ◌≤◌}
use native.Mathlib.Omega.{arith}
use mathlib.Core.List.{List, ◌++◌, append_assoc}
use lib.ListN.{length}
use Rattle.text.specs.Letters.{ascii}
use Rattle.text.specs.Numbers.{decimal}
use Rattle.text.specs.Put.{Put}
use Rattle.text.proofs.Stored.{put-most, put-text, put_then}
use Rattle.listing.specs.Printed.{cell}

-- a cell's line, of two numbers, the channel's name and two numbers
pub put-cell : {a b c d channel : List ℕ} {at m n end : ℕ} (row column frame bit : ℕ) (name : List ℕ) → channel ≡ name ++ ascii " " → length channel ≤ 8
    → Put a b at m 42 (decimal row ++ ascii " " ++ (decimal column ++ ascii " ")) → Put b c m n (length channel) channel
    → Put c d n end 42 (decimal frame ++ ascii " " ++ (decimal bit ++ ascii "\n")) → Put a d at end 92 (cell row column name frame bit)
unfolding cell
put-cell row column frame bit name e h p q r =
    put-most (omega arith) (put-text (simp append_assoc) (put_then p (put_then (put-text e q) r)))
