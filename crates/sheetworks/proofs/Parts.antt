-- The bytes of an L1 frame in those of all, the transfer frames of a channel in them, and the working that they give. Assumes nothing.
use Rattle.std.specs.Prelude.{Option, Some, None}
use mathlib.Core.Path.{◌≡◌, refl, sym, ap, ap₂, ◌∙◌}
use mathlib.Core.Bool.{Bool, true, false}
use mathlib.Core.List.{List, []}
use Prim.Native.Nat.{ℕ, ◌+◌, ◌-◌, ◌*◌, ◌<◌, ◌≤◌, min}
use native.Mathlib.Nat.{mul-le-mul}
use native.Mathlib.Omega.{arith}
use lib.ListN.{get_or, length, take, drop}
use borrow.Author.Tests.{eq-eqb, ne_eqb}
use Rattle.runs.specs.declared.State.{State}
use Rattle.runs.specs.Lent.{Frames}
use Rattle.runs.specs.Starting.{state_at}
use Rattle.modes.specs.Sizes.{wanted}
use Rattle.layout.specs.Inputs.{frames_in}
use Rattle.layout.specs.Layout.{cut}
use Rattle.layout.proofs.Cut.{cut-is}
use Rattle.layout.proofs.Framed.{frames-are}
use Rattle.sheetinputs.specs.Inputs.{frame_size}
use Rattle.sheetlines.specs.declared.entries.CodedBit.{CodedBit}
use Rattle.sheetlines.specs.declared.entries.Cell.{Cell}
use Rattle.sheetlines.specs.declared.entries.Entry.{Entry}
use Rattle.sheetlines.specs.declared.entries.Entry.TheVariants.{Stands, Fill}
use Rattle.workings.specs.declared.Worked.{Worked}
use Rattle.workings.specs.Shown.{worked}
use Rattle.worktext.specs.Texts.{work_line}
use Rattle.sheetworks.specs.Works.{bytes_at, channel_in, work_text, working_of, working_text}

-- ---- an L1 frame

pub size-positive : (mode n3 n4 : ℕ) → 0 < frame_size mode n3 n4
unfolding frame_size
size-positive mode n3 n4 = omega arith

-- as many L1 frames as bytes reach past the bytes
pub past_bytes : (from size n : ℕ) → 0 < size → n ≤ from → n ≡ min (from * size) n
past_bytes from size n h k = omega (arith, mul-le-mul {n₁ = n} {m₁ = 1} k h)

pub bytes-is : (mode n3 n4 : ℕ) (bytes : List ℕ) (t size a b : ℕ) → size ≡ frame_size mode n3 n4 → a ≡ min (t * size) (length bytes) → b ≡ a + min size (length bytes - a)
    → take (b - a) (drop a bytes) ≡ bytes_at mode n3 n4 bytes t
unfolding bytes_at
bytes-is mode n3 n4 bytes t size a b e ea eb = cut-is bytes (t * size) size a b ea eb ∙ ap (λ (k : ℕ). cut (t * k) k bytes) e

-- ---- a channel

module _ (mode m3 m4 : ℕ) (input want : List ℕ) (lengths : want ≡ wanted mode m3 m4) (n3 n4 z a channel : ℕ)
    (ez : z ≡ 0 + min 1 (length input - 0)) (ea : a ≡ z + min (get_or want 0 0) (length input - z)) where
  pub in-p1 : channel ≡ 1 → take (a - z) (drop z input) ≡ channel_in (frames_in mode n3 n4 input) channel
  unfolding channel_in
  in-p1 e =
      ap (λ (f : Frames). f.p1) (frames-are mode m3 m4 input want lengths n3 n4 _ z a _ _ _ _ refl ez ea refl refl refl refl)
      ∙ sym (rw (eq-eqb channel 1 e))

  module _ (b : ℕ) (eb : b ≡ a + min (get_or want 1 0) (length input - a)) (not-p1 : channel ≡ 1 → ⊥) where
    pub in-pids : channel ≡ 2 → take (b - a) (drop a input) ≡ channel_in (frames_in mode n3 n4 input) channel
    unfolding channel_in
    in-pids e =
        ap (λ (f : Frames). f.pids) (frames-are mode m3 m4 input want lengths n3 n4 _ z a b _ _ _ refl ez ea eb refl refl refl)
        ∙ sym (rw (ne_eqb channel 1 not-p1, eq-eqb channel 2 e))

    module _ (c d : ℕ) (ec : c ≡ b + min (get_or want 2 0) (length input - b)) (ed : d ≡ c + min n3 (length input - c)) (not-pids : channel ≡ 2 → ⊥) where
      pub in-p3 : channel ≡ 3 → take (d - c) (drop c input) ≡ channel_in (frames_in mode n3 n4 input) channel
      unfolding channel_in
      in-p3 e =
          ap (λ (f : Frames). f.p3) (frames-are mode m3 m4 input want lengths n3 n4 _ z a b c d _ refl ez ea eb ec ed refl)
          ∙ sym (rw (ne_eqb channel 1 not-p1, ne_eqb channel 2 not-pids, eq-eqb channel 3 e))

      pub in-p4 : (channel ≡ 3 → ⊥) → (e : ℕ) → e ≡ d + min n4 (length input - d) → take (e - d) (drop d input) ≡ channel_in (frames_in mode n3 n4 input) channel
      unfolding channel_in
      in-p4 not-p3 e ee =
          ap (λ (f : Frames). f.p4) (frames-are mode m3 m4 input want lengths n3 n4 _ z a b c d e refl ez ea eb ec ed ee)
          ∙ sym (rw (ne_eqb channel 1 not-p1, ne_eqb channel 2 not-pids, ne_eqb channel 3 not-p3))

-- ---- the working

module _ (mode n3 n4 : ℕ) (bytes : List ℕ) where
  pub working-is : (coded : CodedBit) (s : State) (frame handed : List ℕ) → s ≡ state_at mode 0 coded.from → frame ≡ bytes_at mode n3 n4 bytes coded.from
      → handed ≡ channel_in (frames_in mode n3 n4 frame) coded.channel
      → worked s coded.channel handed coded.frame coded.bit ≡ working_of mode n3 n4 bytes coded
  unfolding working_of
  working-is coded s frame handed e f h =
      ap₂ (λ (s : State) (l : List ℕ). worked s coded.channel l coded.frame coded.bit) e
      (h ∙ ap (λ (l : List ℕ). channel_in (frames_in mode n3 n4 l) coded.channel) f)

  module _ (work : Bool) where
    pub no-work : (e : Option Entry) → work ≡ false → work_text work mode n3 n4 bytes e ≡ []
    unfolding work_text
    no-work e f = rw f

    module _ (f : work ≡ true) (e : Option Entry) where
      pub work-stands : (coded : CodedBit) (cell : Cell) → e ≡ Some (Stands coded cell) → (w : Worked) → w ≡ working_of mode n3 n4 bytes coded
          → work_line w ≡ work_text work mode n3 n4 bytes e
      unfolding work_text working_text
      work-stands coded cell q w h = ap work_line h ∙ sym (rw (f, q))

      pub work-fill : (sent : ℕ) → e ≡ Some (Fill sent) → work_text work mode n3 n4 bytes e ≡ []
      unfolding work_text working_text
      work-fill sent q = rw (f, q)

      pub work-refused : e ≡ None → work_text work mode n3 n4 bytes e ≡ []
      unfolding work_text working_text
      work-refused q = rw (f, q)
