-- What the finder and the locator of six modes say, case by case, and the lengths of U. Assumes nothing.
use mathlib.Core.Path.{◌≡◌, refl, ap, ap₂, sym, subst, ◌∙◌}
use mathlib.Core.Bool.{true, false}
use Prim.Native.Nat.{ℕ, ◌+◌, ◌-◌, ◌*◌, ◌/◌, ◌%◌, ◌<◌, ◌≤◌}
use native.Mathlib.Omega.{arith}
use borrow.Author.Tests.{eq-eqb, ne_eqb, lt-ltb, le-ltb}
use Rattle.std.specs.Prelude.{Result, Err}
use Rattle.control.specs.Modes.{covered}
use Rattle.runs.specs.declared.Answer.{Answer}
use Rattle.runs.specs.declared.Answer.TheVariants.{ModeNotCovered, WrongLength}
use Rattle.runs.specs.declared.Main.{Main}
use Rattle.runs.specs.declared.Main.TheVariants.{Plain, Mp5, Mp6}
use Rattle.runs.specs.MainChannels.{main_of, p1_frames}
use Rattle.runs.specs.Chain.{p1_coded}
use Rattle.queries.specs.Finder.{found}
use Rattle.queries.specs.declared.finder.Found.{Found}
use Rattle.locating.specs.Locator.{located}
use Rattle.finding.specs.declared.finder.Owner.TheVariants.{P1, P2}
use Rattle.finding.specs.VectorU.{frame_coded, p2_coded}
use Rattle.finding.specs.Finder.{found_in, owner_in, told}
use Rattle.finding.specs.Locator.{located_in, p1_in, p2_in}

-- ---- U: the coded P1 frames, then coded P2, 365,440 bits together

pub frames-in : (k : Main) → p1_coded k / frame_coded k ≡ p1_frames k
frames-in Plain = refl
frames-in Mp5 = refl
frames-in Mp6 = refl

pub together : (k : Main) → p1_coded k + p2_coded k ≡ 365440
together Plain = refl
together Mp5 = refl
together Mp6 = refl

pub in-frames : (k : Main) (frame bit : ℕ) → frame < p1_frames k → bit < frame_coded k → frame * frame_coded k + bit < p1_coded k
in-frames Plain frame bit h l = omega arith
in-frames Mp5 frame bit h l = omega arith
in-frames Mp6 frame bit h l = omega arith

-- ---- the finder

module _ (k : Main) (i : ℕ) where
  pub of-p1 : i < p1_coded k → P1 (i / frame_coded k) (i % frame_coded k) ≡ owner_in k i
  unfolding owner_in
  of-p1 l = rw (lt-ltb i (p1_coded k) l)

  pub of-p2 : p1_coded k ≤ i → P2 (i - p1_coded k) ≡ owner_in k i
  unfolding owner_in
  of-p2 l = rw (le-ltb i (p1_coded k) l)

module _ (mode row column : ℕ) where
  pub found_none : covered mode ≡ false → Err ModeNotCovered ≡ found_in mode row column
  unfolding found_in
  found_none e = rw e

  pub found_some : covered mode ≡ true → told (main_of mode) (found row column) ≡ found_in mode row column
  unfolding found_in
  found_some e = rw e

-- ---- the locator

module _ (k : Main) (frame bit : ℕ) where
  pub p1-frame-out : p1_frames k ≤ frame → Err (WrongLength 1) ≡ p1_in k frame bit
  unfolding p1_in
  p1-frame-out h = rw (le-ltb frame (p1_frames k) h)

  pub p1-bit-out : frame < p1_frames k → frame_coded k ≤ bit → Err (WrongLength 2) ≡ p1_in k frame bit
  unfolding p1_in
  p1-bit-out l h = rw (lt-ltb frame (p1_frames k) l, le-ltb bit (frame_coded k) h)

  pub p1-in : frame < p1_frames k → bit < frame_coded k → located 1 0 (frame * frame_coded k + bit) ≡ p1_in k frame bit
  unfolding p1_in
  p1-in l h = rw (lt-ltb frame (p1_frames k) l, lt-ltb bit (frame_coded k) h)

  pub p2-out : p2_coded k ≡ 0 → Err (WrongLength 0) ≡ p2_in k frame bit
  unfolding p2_in
  p2-out e = rw (eq-eqb (p2_coded k) 0 e)

  pub p2-frame-out : (p2_coded k ≡ 0 → ⊥) → 1 ≤ frame → Err (WrongLength 1) ≡ p2_in k frame bit
  unfolding p2_in
  p2-frame-out n h = rw (ne_eqb (p2_coded k) 0 n, le-ltb frame 1 h)

  pub p2-bit-out : (p2_coded k ≡ 0 → ⊥) → frame < 1 → p2_coded k ≤ bit → Err (WrongLength 2) ≡ p2_in k frame bit
  unfolding p2_in
  p2-bit-out n l h = rw (ne_eqb (p2_coded k) 0 n, lt-ltb frame 1 l, le-ltb bit (p2_coded k) h)

  pub p2-in : (p2_coded k ≡ 0 → ⊥) → frame < 1 → bit < p2_coded k → located 1 0 (p1_coded k + bit) ≡ p2_in k frame bit
  unfolding p2_in
  p2-in n l h = rw (ne_eqb (p2_coded k) 0 n, lt-ltb frame 1 l, lt-ltb bit (p2_coded k) h)

module _ (mode channel frame bit : ℕ) where
  pub located-none : covered mode ≡ false → Err ModeNotCovered ≡ located_in mode channel frame bit
  unfolding located_in
  located-none e = rw e

  pub located-p1 : covered mode ≡ true → channel ≡ 1 → p1_in (main_of mode) frame bit ≡ located_in mode channel frame bit
  unfolding located_in
  located-p1 e h = rw (e, eq-eqb channel 1 h)

  pub located-p2 : covered mode ≡ true → (channel ≡ 1 → ⊥) → channel ≡ 5 → p2_in (main_of mode) frame bit ≡ located_in mode channel frame bit
  unfolding located_in
  located-p2 e n h = rw (e, ne_eqb channel 1 n, eq-eqb channel 5 h)

  pub located-other : covered mode ≡ true → (channel ≡ 1 → ⊥) → (channel ≡ 5 → ⊥)
      → located channel frame bit ≡ located_in mode channel frame bit
  unfolding located_in
  located-other e n m = rw (e, ne_eqb channel 1 n, ne_eqb channel 5 m)

-- ---- the same with the lengths that the functions answer: n coded bits of a P1 frame, all of P1, m of P2

module _ (k : Main) (n all m : ℕ) (en : n ≡ frame_coded k) (ea : all ≡ p1_coded k) (em : m ≡ p2_coded k) where
  frames-are : all / n ≡ p1_frames k
  frames-are = ap₂ (λ (a b : ℕ). a / b) ea en ∙ frames-in k

  pub owner-p1 : (i : ℕ) → i < all → P1 (i / n) (i % n) ≡ owner_in k i
  owner-p1 i l = ap (λ (u : ℕ). P1 (i / u) (i % u)) en ∙ of-p1 k i (subst (λ (u : ℕ). i < u) ea l)

  pub owner-p2 : (i : ℕ) → all ≤ i → P2 (i - all) ≡ owner_in k i
  owner-p2 i l = ap (λ (u : ℕ). P2 (i - u)) ea ∙ of-p2 k i (subst (λ (u : ℕ). u ≤ i) ea l)

  module _ (frame bit : ℕ) where
    pub frame-out : all / n ≤ frame → Err (WrongLength 1) ≡ p1_in k frame bit
    frame-out h = p1-frame-out k frame bit (subst (λ (u : ℕ). u ≤ frame) frames-are h)

    pub bit-out : frame < all / n → n ≤ bit → Err (WrongLength 2) ≡ p1_in k frame bit
    bit-out l h = p1-bit-out k frame bit (subst (λ (u : ℕ). frame < u) frames-are l) (subst (λ (u : ℕ). u ≤ bit) en h)

    pub bit_in : frame < all / n → bit < n → located 1 0 (frame * n + bit) ≡ p1_in k frame bit
    bit_in l h =
        ap (λ (u : ℕ). located 1 0 (frame * u + bit)) en
        ∙ p1-in k frame bit (subst (λ (u : ℕ). frame < u) frames-are l) (subst (λ (u : ℕ). bit < u) en h)

    pub small : frame < all / n → bit < n → frame * n + bit < 365440
    small l h =
        let s = in-frames k frame bit (subst (λ (u : ℕ). frame < u) frames-are l) (subst (λ (u : ℕ). bit < u) en h) in
        let t : frame * n + bit < p1_coded k = subst (λ (u : ℕ). frame * u + bit < p1_coded k) (sym en) s in
        omega (arith, t, together k)

    pub p2-none : m ≡ 0 → Err (WrongLength 0) ≡ p2_in k frame bit
    p2-none e = p2-out k frame bit (sym em ∙ e)

    pub p2-other-frame : (m ≡ 0 → ⊥) → 1 ≤ frame → Err (WrongLength 1) ≡ p2_in k frame bit
    p2-other-frame x h = p2-frame-out k frame bit (λ e. x (em ∙ e)) h

    pub p2-past : (m ≡ 0 → ⊥) → frame < 1 → m ≤ bit → Err (WrongLength 2) ≡ p2_in k frame bit
    p2-past x l h = p2-bit-out k frame bit (λ e. x (em ∙ e)) l (subst (λ (u : ℕ). u ≤ bit) em h)

    pub p2-at : (m ≡ 0 → ⊥) → frame < 1 → bit < m → located 1 0 (all + bit) ≡ p2_in k frame bit
    p2-at x l h =
        ap (λ (u : ℕ). located 1 0 (u + bit)) ea ∙ p2-in k frame bit (λ e. x (em ∙ e)) l (subst (λ (u : ℕ). bit < u) em h)

-- ---- which case the match met

module _ (mode row column : ℕ) (is : covered mode ≡ true) (f : Result Found Answer) (e : found row column ≡ f) where
  pub found-told : told (main_of mode) f ≡ found_in mode row column
  found-told = ap (told (main_of mode)) (sym e) ∙ found_some mode row column is
