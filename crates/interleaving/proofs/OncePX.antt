-- Each cell of an internal matrix of PX is written once in two L1 frames, in MP2 as in MP3, MP11 and MP5 (Tables 10-15, 10-16 and 10-18): Interleaver
-- IV's law at either kind. Assumes nothing.
use mathlib.Core.Path.{◌≡◌, refl}
use Prim.Native.Nat.{ℕ, ◌*◌, ◌<◌}
use native.Mathlib.Omega.{arith}
use Rattle.bits.specs.Once.{EachOnce, Below}
use Rattle.interleaving.specs.PX.{partitions, runs, order, cells, place}
use Rattle.interleaving.specs.FinderPX.{source}
use Rattle.interleaving.proofs.BlockIV.{eleven}
use Rattle.interleaving.proofs.OnceIV.{each-once-IV}
use Rattle.interleaving.proofs.PXKinds.{kind-is, coded_bytes-is}

pub px-each-once : (kind : ℕ) → kind < 2 → EachOnce (Below (cells kind)) (cells kind) (place kind) (source kind)
unfolding place source
px-each-once kind h =
    let K = kind-is kind h in
    let all : 32 * 32 * (partitions kind * 36) ≡ cells kind = omega (arith, coded_bytes-is kind h) in
    rw all at
    (each-once-IV (partitions kind) 32 36 (runs kind) K.T 5027 48 (order kind) (order kind)
    K.J-pos (omega arith) (omega arith) K.M-pos K.turns (eleven 4 8 refl) K.perm)

pub place-lt : (kind : ℕ) → kind < 2 → (i : ℕ) → i < cells kind → place kind i < cells kind
place-lt kind h i l = (px-each-once kind h).there i l
