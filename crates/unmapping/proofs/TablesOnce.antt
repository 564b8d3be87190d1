-- The tables' rules, computed once over every row of every mode: each subcarrier carries what its row says, and each pair of cells is carried, by one subcarrier. Assumes nothing.
use mathlib.Core.Path.{◌≡◌, refl, sym, ap, ◌∙◌, subst}
use mathlib.Core.Bool.{Bool, true, false, cond, ◌&&◌, ◌||◌}
use mathlib.Core.Logic.{◌≢◌}
use Prim.Native.Nat.{ℕ, ◌+◌, ◌-◌, ◌*◌, ◌/◌, ◌%◌, ◌<◌}
use native.Mathlib.Omega.{arith}
use lib.Dec.{T, eqb, eqb→eq, leb, leb→le, ltb, ltb→lt}
use lib.ListN.{length, get_or}
use Rattle.bits.specs.Tests.{all}
use Rattle.bits.proofs.Tests.{all-at, both}
use Rattle.runs.specs.declared.Extended.TheVariants.{P3, P4}
use Rattle.runs.specs.Lengths.{kind_of}
use Rattle.subcarriers.specs.declared.Source.{Source}
use Rattle.subcarriers.specs.declared.Source.TheVariants.{Unused, Pm, Px1, Px2, Control}
use Rattle.unmapping.specs.Back.{At, AtMostOnce, InRow, cells_in, column_at, element_at, element_in, named_in, reference_at, referred_in, row_at}
use Rattle.subcarriers.specs.Tables.{mapped, mapped_modes, source_of, in_rows, in_references, rows_of, references_of, lower_main, upper_main, extended2, extended3, extended11, lower_references, upper_references, references2, references3, references11}
use Rattle.mapping.specs.Vector.{width}
use Rattle.subcarriers.proofs.BySlots.{code, same_code}
use Rattle.subcarriers.proofs.Mapped.{mapped-place}

-- an element carries this
abbrev is : (mode k : ℕ) → Source → Bool
is mode k source = ltb k 1093 && eqb (code (source_of mode k)) (code source)

is-so : (mode k : ℕ) (source : Source) → T (is mode k source) → (k < 1093) × (source_of mode k ≡ source)
is-so mode k source t =
    let (a, b) = both (ltb k 1093) (eqb (code (source_of mode k)) (code source)) t in
    (ltb→lt k 1093 a, same_code (source_of mode k) source b)

-- where partition p of a matrix begins: nineteen elements for each, the lower sideband's half of them from `low` on, the upper one's from `high` on
abbrev begin : (low high half c : ℕ) → ℕ
begin low high half c = cond (ltb c (18 * half)) (low + 19 * (c / 18) + c % 18) (high + 19 * (c / 18 - half) + c % 18)

pm_place : (mode c : ℕ) → ℕ
pm_place mode c = begin 1 903 10 c

px1_place : (mode c : ℕ) → ℕ
px1_place mode c = cond (eqb mode 2) (begin 191 884 1 c) (begin 191 865 2 c)

px2_place : (mode c : ℕ) → ℕ
px2_place mode c = begin 229 827 2 c

-- where a source is carried
unfoldable carried_at : (mode : ℕ) → Source → ℕ
carried_at mode Unused = 0
carried_at mode (Pm c) = pm_place mode (c / 2)
carried_at mode (Px1 c) = px1_place mode (c / 2)
carried_at mode (Px2 c) = px2_place mode (c / 2)
carried_at mode (Control c) = cond (ltb c 15) (19 * c) (826 + 19 * (c - 46))

unfoldable once_rule : ℕ → Bool
once_rule mode = all 1093 (λ k. leb (named_in (rows_of mode) k + referred_in (references_of mode) k) 1)

unfoldable rows_rule : ℕ → Bool
rows_rule mode = all (length (rows_of mode)) (λ n. all 18 (λ i. is mode (element_in (row_at mode n) i) (cells_in (row_at mode n) i)))

unfoldable references_rule : ℕ → Bool
references_rule mode = all (length (references_of mode)) (λ n. is mode (element_at (reference_at mode n)) (Control (column_at (reference_at mode n))))

unfoldable pm_rule : ℕ → Bool
pm_rule mode = all 360 (λ c. is mode (pm_place mode c) (Pm (2 * c)))

unfoldable px1_rule : ℕ → Bool
px1_rule mode = all ((width (kind_of mode P3) + 1) / 2) (λ c. is mode (px1_place mode c) (Px1 (2 * c)))

unfoldable px2_rule : ℕ → Bool
px2_rule mode = all ((width (kind_of mode P4) + 1) / 2) (λ c. is mode (px2_place mode c) (Px2 (2 * c)))

once-tested : T (all 4 (λ n. once_rule (get_or mapped_modes n 0)))
unfolding all once_rule named_in referred_in rows_of references_of lower_main upper_main extended2 extended3 extended11 lower_references upper_references references2 references3 references11
once-tested = tt

rows-tested : T (all 4 (λ n. rows_rule (get_or mapped_modes n 0)))
unfolding all rows_rule source_of in_rows in_references rows_of references_of lower_main upper_main extended2 extended3 extended11 lower_references upper_references references2 references3 references11
rows-tested = tt

references-tested : T (all 4 (λ n. references_rule (get_or mapped_modes n 0)))
unfolding all references_rule source_of in_rows in_references rows_of references_of lower_main upper_main extended2 extended3 extended11 lower_references upper_references references2 references3 references11
references-tested = tt

pm-tested : T (all 4 (λ n. pm_rule (get_or mapped_modes n 0)))
unfolding all pm_rule pm_place source_of in_rows in_references rows_of references_of lower_main upper_main extended2 extended3 extended11 lower_references upper_references references2 references3 references11
pm-tested = tt

px1-tested : T (all 4 (λ n. px1_rule (get_or mapped_modes n 0)))
unfolding all px1_rule px1_place kind_of source_of in_rows in_references rows_of references_of lower_main upper_main extended2 extended3 extended11 lower_references upper_references references2 references3 references11
px1-tested = tt

px2-tested : T (all 4 (λ n. px2_rule (get_or mapped_modes n 0)))
unfolding all px2_rule px2_place kind_of source_of in_rows in_references rows_of references_of lower_main upper_main extended2 extended3 extended11 lower_references upper_references references2 references3 references11
px2-tested = tt

unfoldable place_rule : ℕ → Bool
place_rule mode = all 1093 (λ k. eqb (code (source_of mode k)) 0 || eqb (carried_at mode (source_of mode k)) k)

place-tested : T (all 4 (λ n. place_rule (get_or mapped_modes n 0)))
unfolding all place_rule carried_at pm_place px1_place px2_place source_of in_rows in_references rows_of references_of lower_main upper_main extended2 extended3 extended11 lower_references upper_references references2 references3 references11
place-tested = tt

unfoldable whole : (mode : ℕ) → Source → Bool
whole mode Unused = true
whole mode (Pm c) = eqb (c % 2) 0 && ltb c 720
whole mode (Px1 c) = eqb (c % 2) 0 && ltb c (width (kind_of mode P3))
whole mode (Px2 c) = eqb (c % 2) 0 && ltb c (width (kind_of mode P4))
whole mode (Control c) = ltb c 61

even-below : (c w : ℕ) → T (eqb (c % 2) 0 && ltb c w) → (c % 2 ≡ 0) × (c < w)
even-below c w t = let (a, b) = both (eqb (c % 2) 0) (ltb c w) t in (eqb→eq (c % 2) 0 a, ltb→lt c w b)

in_row : (mode : ℕ) (source : Source) → T (whole mode source) → InRow mode source
unfolding whole
in_row mode Unused t = tt
in_row mode (Pm c) t = even-below c 720 t
in_row mode (Px1 c) t = even-below c (width (kind_of mode P3)) t
in_row mode (Px2 c) t = even-below c (width (kind_of mode P4)) t
in_row mode (Control c) t = ltb→lt c 61 t

unfoldable pairs_rule : ℕ → Bool
pairs_rule mode = all 1093 (λ k. whole mode (source_of mode k))

pairs-tested : T (all 4 (λ n. pairs_rule (get_or mapped_modes n 0)))
unfolding all pairs_rule whole kind_of source_of in_rows in_references rows_of references_of lower_main upper_main extended2 extended3 extended11 lower_references upper_references references2 references3 references11
pairs-tested = tt

holds : (rule : ℕ → Bool) → T (all 4 (λ n. rule (get_or mapped_modes n 0))) → (mode : ℕ) → mapped mode ≡ true → T (rule mode)
holds rule t mode e = let p = mapped-place mode e in subst (λ (m : ℕ). T (rule m)) p.is (all-at 4 (λ n. rule (get_or mapped_modes n 0)) t p.at p.inside)

-- twice a number below w, which is even
half_lt : (c w : ℕ) → 2 * c < w → c < (w + 1) / 2
half_lt c w h = omega arith

module _ (mode : ℕ) (e : mapped mode ≡ true) where
  -- an element that carries something is where that is carried
  at_place : (k : ℕ) → k < 1093 → source_of mode k ≢ Unused → carried_at mode (source_of mode k) ≡ k
  unfolding place_rule
  at_place k h ne = go (eqb (code (source_of mode k)) 0) refl
      (all-at 1093 (λ k. eqb (code (source_of mode k)) 0 || eqb (carried_at mode (source_of mode k)) k) (holds place_rule place-tested mode e) k h)
    where
      go : (b : Bool) → eqb (code (source_of mode k)) 0 ≡ b → T (b || eqb (carried_at mode (source_of mode k)) k) → carried_at mode (source_of mode k) ≡ k
      go true d t = absurd (ne (same_code (source_of mode k) Unused (subst (λ (b : Bool). T b) (sym d) tt)))
      go false d t = eqb→eq (carried_at mode (source_of mode k)) k t

  pub at-most-once : AtMostOnce mode
  unfolding once_rule rows_rule references_rule pairs_rule
  at-most-once =
      record {
        once = λ k h. leb→le (named_in (rows_of mode) k + referred_in (references_of mode) k) 1
            (all-at 1093 (λ k. leb (named_in (rows_of mode) k + referred_in (references_of mode) k) 1) (holds once_rule once-tested mode e) k h);
        rows = λ n i h l. is-so mode (element_in (row_at mode n) i) (cells_in (row_at mode n) i)
            (all-at 18 (λ i. is mode (element_in (row_at mode n) i) (cells_in (row_at mode n) i))
            (all-at (length (rows_of mode)) (λ n. all 18 (λ i. is mode (element_in (row_at mode n) i) (cells_in (row_at mode n) i))) (holds rows_rule rows-tested mode e) n h) i l);
        references = λ n h. is-so mode (element_at (reference_at mode n)) (Control (column_at (reference_at mode n)))
            (all-at (length (references_of mode)) (λ n. is mode (element_at (reference_at mode n)) (Control (column_at (reference_at mode n)))) (holds references_rule references-tested mode e) n h);
        pairs = λ k h. in_row mode (source_of mode k) (all-at 1093 (λ k. whole mode (source_of mode k)) (holds pairs_rule pairs-tested mode e) k h);
        apart = λ j k a b ne s. sym (at_place j a ne) ∙ ap (carried_at mode) s ∙ at_place k b (λ z. ne (s ∙ z));
      }

  found : (k : ℕ) (source : Source) → T (is mode k source) → At mode source
  found k source t = let (a, b) = is-so mode k source t in record { place = k; inside = a; carries = b }

  pub pm-at : (c : ℕ) → 2 * c < 720 → At mode (Pm (2 * c))
  unfolding pm_rule
  pm-at c h = found (pm_place mode c) (Pm (2 * c)) (all-at 360 (λ c. is mode (pm_place mode c) (Pm (2 * c))) (holds pm_rule pm-tested mode e) c (omega arith))

  pub px1-at : (c : ℕ) → 2 * c < width (kind_of mode P3) → At mode (Px1 (2 * c))
  unfolding px1_rule
  px1-at c h =
      found (px1_place mode c) (Px1 (2 * c)) (all-at ((width (kind_of mode P3) + 1) / 2) (λ c. is mode (px1_place mode c) (Px1 (2 * c))) (holds px1_rule px1-tested mode e) c (half_lt c (width (kind_of mode P3)) h))

  pub px2-at : (c : ℕ) → 2 * c < width (kind_of mode P4) → At mode (Px2 (2 * c))
  unfolding px2_rule
  px2-at c h =
      found (px2_place mode c) (Px2 (2 * c)) (all-at ((width (kind_of mode P4) + 1) / 2) (λ c. is mode (px2_place mode c) (Px2 (2 * c))) (holds px2_rule px2-tested mode e) c (half_lt c (width (kind_of mode P4)) h))
