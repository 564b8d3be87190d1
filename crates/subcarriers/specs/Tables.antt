-- Tables 12-3 to 12-6 and Table 12-12: which cells each subcarrier carries, by service mode (docs/DECISIONS.md D66, D67).
use Rattle.std.specs.Prelude.{ℕ, ◌+◌, ◌-◌, ◌*◌, Bool, cond, ◌&&◌, List, [], ◌∷◌, ◌++◌, eqb, leb, ltb}
use Rattle.control.specs.Modes.{one_of}
use Rattle.subcarriers.specs.declared.Source.{Source}
use Rattle.subcarriers.specs.declared.Source.TheVariants.{Unused, Pm, Px1, Px2, Control}

-- S-7: the modes whose vectors are given, MP1, MP2, MP3 and MP11, also where runs cover more
abbrev pub mapped_modes : List ℕ
mapped_modes = 1 ∷ 2 ∷ 3 ∷ 11 ∷ []

unfoldable pub mapped : ℕ → Bool
mapped mode = one_of mapped_modes mode

-- a subcarrier's number: -n or n
pub data Subcarrier : Type 0 where
  below above : ℕ → Subcarrier

-- Figure 12-2: element k of the vector corresponds to subcarrier k - 546
abbrev pub element : Subcarrier → ℕ
element (below n) = 546 - n
element (above n) = 546 + n

-- a row of Tables 12-3 to 12-6: the starting subcarrier, the interleaver matrix and its partition
pub data Row : Type 0 where
  row : Subcarrier → (ℕ → Source) → ℕ → Row

unfoldable pub lower_main : List Row
lower_main =
    row (below 545) Pm 0 ∷ row (below 526) Pm 1 ∷ row (below 507) Pm 2 ∷ row (below 488) Pm 3 ∷ row (below 469) Pm 4
    ∷ row (below 450) Pm 5 ∷ row (below 431) Pm 6 ∷ row (below 412) Pm 7 ∷ row (below 393) Pm 8 ∷ row (below 374) Pm 9 ∷ []

unfoldable pub upper_main : List Row
upper_main =
    row (above 357) Pm 10 ∷ row (above 376) Pm 11 ∷ row (above 395) Pm 12 ∷ row (above 414) Pm 13 ∷ row (above 433) Pm 14
    ∷ row (above 452) Pm 15 ∷ row (above 471) Pm 16 ∷ row (above 490) Pm 17 ∷ row (above 509) Pm 18 ∷ row (above 528) Pm 19 ∷ []

-- Table 12-4
unfoldable pub extended2 : List Row
extended2 = row (below 355) Px1 0 ∷ row (above 338) Px1 1 ∷ []

-- Table 12-5
unfoldable pub extended3 : List Row
extended3 = row (below 355) Px1 0 ∷ row (below 336) Px1 1 ∷ row (above 319) Px1 2 ∷ row (above 338) Px1 3 ∷ []

-- Table 12-6
unfoldable pub extended11 : List Row
extended11 =
    row (below 355) Px1 0 ∷ row (below 336) Px1 1 ∷ row (below 317) Px2 0 ∷ row (below 298) Px2 1
    ∷ row (above 281) Px2 2 ∷ row (above 300) Px2 3 ∷ row (above 319) Px1 2 ∷ row (above 338) Px1 3 ∷ []

-- Table 12-3 for MP1, 12-4 for MP2, 12-5 for MP3, 12-6 for MP11
unfoldable pub rows_of : ℕ → List Row
rows_of mode = lower_main ++ cond (eqb mode 1) [] (cond (eqb mode 2) extended2 (cond (eqb mode 3) extended3 extended11)) ++ upper_main

-- a row of Table 12-12: the subcarrier and its column of R
pub data Reference : Type 0 where
  reference : Subcarrier → ℕ → Reference

unfoldable pub lower_references : List Reference
lower_references =
    reference (below 546) 0 ∷ reference (below 527) 1 ∷ reference (below 508) 2 ∷ reference (below 489) 3 ∷ reference (below 470) 4
    ∷ reference (below 451) 5 ∷ reference (below 432) 6 ∷ reference (below 413) 7 ∷ reference (below 394) 8 ∷ reference (below 375) 9
    ∷ reference (below 356) 10 ∷ []

unfoldable pub upper_references : List Reference
upper_references =
    reference (above 356) 50 ∷ reference (above 375) 51 ∷ reference (above 394) 52 ∷ reference (above 413) 53 ∷ reference (above 432) 54
    ∷ reference (above 451) 55 ∷ reference (above 470) 56 ∷ reference (above 489) 57 ∷ reference (above 508) 58 ∷ reference (above 527) 59
    ∷ reference (above 546) 60 ∷ []

-- between them: in MP2, MP3 and MP11
unfoldable pub references2 : List Reference
references2 = reference (below 337) 11 ∷ reference (above 337) 49 ∷ []

unfoldable pub references3 : List Reference
references3 = reference (below 337) 11 ∷ reference (below 318) 12 ∷ reference (above 318) 48 ∷ reference (above 337) 49 ∷ []

unfoldable pub references11 : List Reference
references11 =
    reference (below 337) 11 ∷ reference (below 318) 12 ∷ reference (below 299) 13 ∷ reference (below 280) 14
    ∷ reference (above 280) 46 ∷ reference (above 299) 47 ∷ reference (above 318) 48 ∷ reference (above 337) 49 ∷ []

unfoldable pub references_of : ℕ → List Reference
references_of mode =
    lower_references ++ cond (eqb mode 1) [] (cond (eqb mode 2) references2 (cond (eqb mode 3) references3 references11)) ++ upper_references

-- 12.2.1: the columns 0 and 1 of a partition of 36 go to its starting subcarrier, the last two to its ending one, the eighteenth
unfoldable pub in_rows : List Row → ℕ → Source → Source
in_rows [] k other = other
in_rows (row start matrix partition ∷ rest) k other =
    cond (leb (element start) k && ltb k (element start + 18)) (matrix (36 * partition + 2 * (k - element start))) (in_rows rest k other)

-- 12.2.2
unfoldable pub in_references : List Reference → ℕ → Source
in_references [] k = Unused
in_references (reference subcarrier column ∷ rest) k = cond (eqb k (element subcarrier)) (Control column) (in_references rest k)

-- what element k of the vector carries in a mode
unfoldable pub source_of : (mode k : ℕ) → Source
source_of mode k = in_rows (rows_of mode) k (in_references (references_of mode) k)

-- the same for any mode and number: nothing where there is no such vector or element
unfoldable pub source_at : (mode k : ℕ) → Source
source_at mode k = cond (mapped mode) (cond (ltb k 1093) (source_of mode k) Unused) Unused
