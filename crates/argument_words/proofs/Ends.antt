-- A text that ends with another. Assumes nothing.
use mathlib.Core.Path.{◌≡◌, refl, sym, ap, ◌∙◌}
use mathlib.Core.Bool.{Bool, true, false}
use mathlib.Core.List.{List}
use Prim.Native.Nat.{ℕ, ◌-◌, ◌≤◌, ◌<◌}
use native.Mathlib.Omega.{arith}
use lib.ListN.{drop, length, take, length-drop}
use lib.Seq.{take_all}
use Rattle.bits.specs.Tests.{same}
use Rattle.bits.proofs.Tests.{same_true}
use Rattle.argument_words.specs.Words.{ends_with, without}

module _ (last text : List ℕ) where
  end-length : ends_with last text ≡ true → length last ≡ length text - (length text - length last)
  unfolding ends_with
  end-length e = ap length (sym (same_true (drop (length text - length last) text) last e)) ∙ length-drop (length text - length last) text

  pub end_fits : ends_with last text ≡ true → length last ≤ length text
  end_fits e = omega (arith, end-length e)

  pub end-longer : length text < length last → false ≡ ends_with last text
  end-longer h = go (ends_with last text) refl
    where
      go : (b : Bool) → ends_with last text ≡ b → false ≡ b
      go false e = refl
      go true e = absurd (omega (arith, end_fits e))

  pub end-there : (at : ℕ) {b : Bool} → at ≡ length text - length last → b ≡ same (take (length text - at) (drop at text)) last → b ≡ ends_with last text
  unfolding ends_with
  end-there at h e =
      e ∙ ap (λ (l : List ℕ). same l last) (take_all (length text - at) (drop at text) (omega (arith, length-drop at text)) ∙ ap (λ (n : ℕ). drop n text) h)

  pub end_kept : ends_with last text ≡ false → text ≡ without last text
  unfolding without
  end_kept e = rw e

  pub end-cut : ends_with last text ≡ true → take (length text - length last) text ≡ without last text
  unfolding without
  end-cut e = rw e
