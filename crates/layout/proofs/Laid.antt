-- An L1 frame's bytes and the L1 frame. Assumes nothing.
use Prim.Native.Nat.{ℕ, ◌+◌}
use mathlib.Core.Path.{◌≡◌, refl, sym, ap, ap₂, ◌∙◌}
use mathlib.Core.Option.{none}
use mathlib.Core.List.{List, ◌++◌}
use native.Mathlib.Omega.{arith}
use lib.ListN.{length, take, drop, length-append, length-drop, take-append-drop}
use lib.Seq.{drop-append-add, drop_at, drop-drop, length-take-le, take_all, take_at}
use Rattle.runs.specs.declared.Extended.TheVariants.{P3}
use Rattle.runs.specs.Causes.{wrong}
use Rattle.runs.specs.Lengths.{kind_of, matrix_len, pm_len, px2_len, control_len}
use Rattle.runs.specs.Lent.{Lent, Signal}
use Rattle.runs.specs.Sending.{lent_sizes}
use Rattle.runs.proofs.Passing.{wrong-head}
use Rattle.calls.specs.Called.{signal}
use Rattle.layout.specs.Layout.{bytes_of, frame_bytes, signal_in}

-- an L1 frame of the right lengths
pub record Sized (mode : ℕ) (x : Signal) : Type 0 where
  pub pm-right : length x.matrices.pm ≡ pm_len
  pub px1-right : length x.matrices.px1 ≡ matrix_len (kind_of mode P3)
  pub px2-right : length x.matrices.px2 ≡ px2_len mode
  pub control-right : length x.control ≡ control_len

pub sized_of : (mode : ℕ) (l : Lent) → wrong 0 (lent_sizes mode l) ≡ none → Sized mode l.signal
unfolding lent_sizes
sized_of mode l e =
    let (e₀, r₁) = wrong-head _ _ _ _ e in
    let (e₁, r₂) = wrong-head _ _ _ _ r₁ in
    let (e₂, r₃) = wrong-head _ _ _ _ r₂ in
    let (e₃, r₄) = wrong-head _ _ _ _ r₃ in
    let (e₄, r₅) = wrong-head _ _ _ _ r₄ in
    let (e₅, r₆) = wrong-head _ _ _ _ r₅ in
    let (e₆, r₇) = wrong-head _ _ _ _ r₆ in
    let (e₇, r₈) = wrong-head _ _ _ _ r₇ in
    let (e₈, r₉) = wrong-head _ _ _ _ r₈ in
    record { pm-right = e₅; px1-right = e₆; px2-right = e₇; control-right = e₈ }

-- ---- four parts in a row

module _ (a b c d : List ℕ) where
  abbrev row : List ℕ
  row = a ++ (b ++ (c ++ d))

  after_one : drop (length a) row ≡ b ++ (c ++ d)
  after_one = drop_at a (b ++ (c ++ d)) (length a) refl

  after_two : drop (length a + length b) row ≡ c ++ d
  after_two = drop-append-add a (b ++ (c ++ d)) (length b) ∙ drop_at b (c ++ d) (length b) refl

  after-three : drop (length a + length b + length c) row ≡ d
  after-three =
      sym (drop-drop (length c) (length a + length b) row) ∙ ap (λ (l : List ℕ). drop (length c) l) after_two ∙ drop_at c d (length c) refl

  pub row-length : length row ≡ length a + length b + length c + length d
  row-length = omega (arith, length-append a (b ++ (c ++ d)), length-append b (c ++ d), length-append c d)

  module _ (na nb nc nd : ℕ) (ea : length a ≡ na) (eb : length b ≡ nb) (ec : length c ≡ nc) (ed : length d ≡ nd) where
    pub first_part : take na row ≡ a
    first_part = take_at a (b ++ (c ++ d)) na ea

    pub second-part : take nb (drop na row) ≡ b
    second-part = ap (λ (k : ℕ). take nb (drop k row)) (sym ea) ∙ ap (take nb) after_one ∙ take_at b (c ++ d) nb eb

    pub third-part : take nc (drop (na + nb) row) ≡ c
    third-part = ap₂ (λ (j k : ℕ). take nc (drop (j + k) row)) (sym ea) (sym eb) ∙ ap (take nc) after_two ∙ take_at c d nc ec

    pub fourth-part : take nd (drop (na + nb + nc) row) ≡ d
    fourth-part =
        ap (λ (k : ℕ). take nd (drop (k + nb + nc) row)) (sym ea) ∙ ap₂ (λ (j k : ℕ). take nd (drop (length a + j + k) row)) (sym eb) (sym ec)
        ∙ ap (take nd) after-three ∙ take_all nd d (omega arith)

-- the L1 frame back from its bytes
pub signal-back : (mode : ℕ) (x : Signal) → Sized mode x → signal_in mode (bytes_of x) ≡ x
unfolding signal_in bytes_of
signal-back mode x s =
    let a = x.matrices.pm in
    let b = x.matrices.px1 in
    let c = x.matrices.px2 in
    let d = x.control in
    let q1 = first_part a b c d _ _ _ _ s.pm-right s.px1-right s.px2-right s.control-right in
    let q2 = second-part a b c d _ _ _ _ s.pm-right s.px1-right s.px2-right s.control-right in
    let q3 = third-part a b c d _ _ _ _ s.pm-right s.px1-right s.px2-right s.control-right in
    let q4 = fourth-part a b c d _ _ _ _ s.pm-right s.px1-right s.px2-right s.control-right in
    λ i. signal (q1 i) (q2 i) (q3 i) (q4 i)

pub bytes-length : (mode : ℕ) (x : Signal) → Sized mode x → length (bytes_of x) ≡ frame_bytes mode
unfolding frame_bytes bytes_of
bytes-length mode x s =
    omega (arith, row-length x.matrices.pm x.matrices.px1 x.matrices.px2 x.control, s.pm-right, s.px1-right, s.px2-right, s.control-right)

-- the bytes back from the L1 frame
module _ (mode : ℕ) (bytes : List ℕ) (e : length bytes ≡ frame_bytes mode) where
  abbrev px1 : ℕ
  px1 = matrix_len (kind_of mode P3)

  abbrev px2 : ℕ
  px2 = px2_len mode

  pub sized-in : Sized mode (signal_in mode bytes)
  unfolding signal_in frame_bytes
  sized-in =
      record {
        pm-right = length-take-le pm_len bytes (omega arith);
        px1-right = length-take-le px1 (drop pm_len bytes) (omega (arith, length-drop pm_len bytes));
        px2-right = length-take-le px2 (drop (pm_len + px1) bytes) (omega (arith, length-drop (pm_len + px1) bytes));
        control-right = length-take-le control_len (drop (pm_len + px1 + px2) bytes) (omega (arith, length-drop (pm_len + px1 + px2) bytes));
      }

  -- two parts that follow each other
  joined : (from n : ℕ) → take n (drop from bytes) ++ drop (from + n) bytes ≡ drop from bytes
  joined from n = ap (λ (l : List ℕ). take n (drop from bytes) ++ l) (sym (drop-drop n from bytes)) ∙ take-append-drop n (drop from bytes)

  last-whole : take control_len (drop (pm_len + px1 + px2) bytes) ≡ drop (pm_len + px1 + px2) bytes
  unfolding frame_bytes
  last-whole = take_all control_len (drop (pm_len + px1 + px2) bytes) (omega (arith, length-drop (pm_len + px1 + px2) bytes))

  pub bytes_back : bytes_of (signal_in mode bytes) ≡ bytes
  unfolding signal_in bytes_of
  bytes_back =
      ap (λ (l : List ℕ). take pm_len bytes ++ (take px1 (drop pm_len bytes) ++ (take px2 (drop (pm_len + px1) bytes) ++ l))) last-whole
      ∙ ap (λ (l : List ℕ). take pm_len bytes ++ (take px1 (drop pm_len bytes) ++ l)) (joined (pm_len + px1) px2)
      ∙ ap (λ (l : List ℕ). take pm_len bytes ++ l) (joined pm_len px1)
      ∙ take-append-drop pm_len bytes
