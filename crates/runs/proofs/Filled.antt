-- No data for P3 or P4 (document 02, S-5): the frames that are meant. Assumes nothing.
use Prim.Native.Nat.{ℕ, zero, suc}
use mathlib.Core.Path.{◌≡◌, refl, sym, ap}
use mathlib.Core.List.{[], ◌∷◌}
use native.Mathlib.Omega.{arith}
use lib.ListN.{length, get_or, replicate, length-replicate}
use Rattle.bits.specs.Bits.{Bytes}
use Rattle.runs.specs.declared.Extended.TheVariants.{P3, P4}
use Rattle.runs.specs.Lengths.{kind_of, frame_len}
use Rattle.runs.specs.Chain.{Buffer}
use Rattle.runs.specs.Lent.{Frames, Lent, ByteFrames, or_zeros, filled, meant}
use Rattle.runs.specs.Runs.{Fitting}
use Rattle.runs.proofs.Cases.{each_extended}

zeros-at : (n j : ℕ) → ◌≡◌ {A = ℕ} (get_or (replicate n 0) j 0) 0
zeros-at zero j = refl
zeros-at (suc n) zero = refl
zeros-at (suc n) (suc j) = zeros-at n j

pub or-zeros-bytes : (n : ℕ) (b : Buffer) → Bytes b → Bytes (or_zeros n b)
or-zeros-bytes n [] h j = omega (arith, zeros-at n j)
or-zeros-bytes n (x ∷ b) h j = h j

pub filled-bytes : (mode : ℕ) (f : Frames) → ByteFrames f → ByteFrames (filled mode f)
unfolding filled
filled-bytes mode f h =
    record {
      p1-bytes = h.p1-bytes;
      pids-bytes = h.pids-bytes;
      p2-bytes = h.p2-bytes;
      extended-bytes = each_extended _ (or-zeros-bytes _ f.p3 (h.extended-bytes P3)) (or-zeros-bytes _ f.p4 (h.extended-bytes P4));
    }

pub or-zeros-none : (n : ℕ) (b : Buffer) → length b ≡ 0 → or_zeros n b ≡ replicate n 0
or-zeros-none n [] h = refl
or-zeros-none n (x ∷ b) h = absurd (omega arith)

pub or-zeros-some : (n : ℕ) (b : Buffer) → (length b ≡ 0 → ⊥) → or_zeros n b ≡ b
or-zeros-some n [] h = absurd (h refl)
or-zeros-some n (x ∷ b) h = refl

-- data mean themselves, and so do zeros handed in full
pub or-zeros-right : (n : ℕ) (b : Buffer) → length b ≡ n → or_zeros n b ≡ b
or-zeros-right n [] h = ap (λ (k : ℕ). replicate {A = ℕ} k 0) (sym h)
or-zeros-right n (x ∷ b) h = refl

pub filled-right : (mode : ℕ) (f : Frames) → Fitting mode f → filled mode f ≡ f
unfolding filled
filled-right mode f r =
    λ i.
    record {
      reserved = f.reserved;
      p1 = f.p1;
      pids = f.pids;
      p2 = f.p2;
      p3 = or-zeros-right _ f.p3 (r.extended-right P3) i;
      p4 = or-zeros-right _ f.p4 (r.extended-right P4) i;
    }

or-zeros-twice : (n : ℕ) (b : Buffer) → or_zeros n (or_zeros n b) ≡ or_zeros n b
or-zeros-twice n [] = or-zeros-right n (replicate n 0) (length-replicate {A = ℕ} n 0)
or-zeros-twice n (x ∷ b) = refl

-- so the zeros in full mean what nothing means
pub meant-twice : (mode : ℕ) (l : Lent) → meant mode (meant mode l) ≡ meant mode l
unfolding filled
meant-twice mode l =
    let f = l.frames in
    λ i.
    record {
      frames = record {
        reserved = f.reserved;
        p1 = f.p1;
        pids = f.pids;
        p2 = f.p2;
        p3 = or-zeros-twice (frame_len (kind_of mode P3)) f.p3 i;
        p4 = or-zeros-twice (frame_len (kind_of mode P4)) f.p4 i;
      };
      signal = l.signal;
    }
