-- S-10: the theorem about runs that are the same. Assumes nothing.
use Prim.Native.Nat.{ℕ, ◌*◌, ◌≤◌}
use mathlib.Core.Path.{◌≡◌, refl, path_j}
use mathlib.Core.List.{List}
use native.Mathlib.Omega.{arith}
use lib.ListN.{length}
use Rattle.runs.specs.declared.Main.{Main}
use Rattle.runs.specs.declared.Main.TheVariants.{Plain, Mp5, Mp6}
use Rattle.runs.specs.MainChannels.{main_of, delay_frames}
use Rattle.runs.specs.Lent.{Frames}
use Rattle.runs.specs.Runs.{SenderRun, count}
use Rattle.comparing.specs.Same.{Same, SameNow, LikeContinuation, SameThrough, block_pairs, Likeness}
use Rattle.comparing.proofs.Further.{goes, can-go}
use Rattle.comparing.proofs.Same.{shown-now, stay, waiting-unsent}
use Rattle.comparing.proofs.Finer.{apart}

stay-when : (mode : ℕ) (a a' : SenderRun mode) (mode' : ℕ) → mode ≡ mode' → (b b' : SenderRun mode') (fs : List Frames)
    → Same mode mode' a b → LikeContinuation mode mode' a a' b b' fs → Same mode mode' a' b'
stay-when mode a a' mode' =
    path_j (λ (mode' : ℕ) (_ : mode ≡ mode'). (b b' : SenderRun mode') (fs : List Frames)
    → Same mode mode' a b → LikeContinuation mode mode' a a' b b' fs → Same mode mode' a' b')
    (λ b b' fs w on. stay mode a a' b b' fs on w.lengths w.signals w.waiting)

-- so many block pairs show the internal matrices, and the delay memory
show-extended : (k : Main) → 16 ≤ block_pairs k
show-extended Plain = omega arith
show-extended Mp5 = omega arith
show-extended Mp6 = omega arith

show-delay : (k : Main) → 8 * delay_frames k ≤ block_pairs k
show-delay Plain = omega arith
show-delay Mp5 = omega arith
show-delay Mp6 = omega arith

shown : (mode : ℕ) (a a' b b' : SenderRun mode) (fs : List Frames) → count mode a ≡ count mode b
    → LikeContinuation mode mode a a' b b' fs → block_pairs (main_of mode) ≤ 8 * length fs → SameThrough mode (count mode a) (block_pairs (main_of mode)) a' b'
    → SameNow mode mode a b
shown mode a a' b b' fs lengths on =
    shown-now mode a a' b b' fs on lengths (block_pairs (main_of mode)) (show-extended (main_of mode)) (show-delay (main_of mode))

pub likeness : Likeness
likeness =
    record {
      stay-same = λ mode mode' a a' b b' fs w. stay-when mode a a' mode' w.modes b b' fs w;
      were-same = λ mode a a' b b' fs lengths signals on long same.
          record { lengths = lengths; modes = refl; signals = signals; waiting = shown mode a a' b b' fs lengths on long same };
      waiting-shown = shown;
      goes_on = goes;
      can-go-on = can-go;
      waiting-bits = waiting-unsent;
      finer = apart;
    }
