-- What a search says fits its fields of a word, and the word is of one outcome. Assumes nothing.
use mathlib.Core.Path.{◌≡◌, sym, ap, ◌∙◌}
use mathlib.Core.List.{List}
use Prim.Native.Nat.{ℕ, ◌^◌, ◌<◌, ◌≤◌}
use native.Mathlib.Decide.{dec_lt}
use native.Mathlib.Omega.{arith}
use Rattle.runs.specs.Answers.{place_of}
use Rattle.runs.specs.declared.Answer.TheVariants.{Success}
use Rattle.trellis.specs.Cells.{scrambled_of}
use Rattle.trellis.proofs.Distances.{distance-low}
use Rattle.decoding.specs.declared.Decoded.{Decoded}
use Rattle.decoding.specs.Nearness.{Margin}
use Rattle.decoding.specs.Outcomes.{judged, Answered}
use Rattle.decoding.proofs.Answering.{budget-low, is-success, judged-place}
use Rattle.decoding.proofs.Outcomes.{answered-once}
use Rattle.words.specs.Words.{decoded_word}
use Rattle.words.proofs.Fields.{SmallDecoded}
use Rattle.exported.specs.Decoded.{AnsweredBy}

margin-low : (cells : List ℕ) (budget d m : ℕ) → budget ≤ 64 → Margin cells budget d m → m ≤ d
margin-low cells budget d m l h =
    elim (dec_lt budget 64) [
      | yes k ↦ omega (arith, (h.some k).2)
      | no k ↦ let e : budget ≡ 64 = omega arith in omega (arith, h.all e)
    ]

pub decoded-small : (cells before after : List ℕ) (budget : ℕ) (d : Decoded) → Answered cells before after budget d → SmallDecoded d
decoded-small cells before after budget d a = go (is-success (judged cells before budget))
  where
    place : place_of d.answer < 2 ^ 32
    place = omega (arith, ap place_of a.answer, judged-place cells before budget)

    go : Dec (judged cells before budget ≡ Success) → SmallDecoded d
    go (yes e) =
        let n = a.named e in
        let low = distance-low cells (scrambled_of after) in
        let m = margin-low cells budget d.distance d.margin (budget-low cells before budget e) n.margin in
        (omega (arith, n.distance), omega (arith, n.distance), place)
    go (no e) = let r = a.refused e in (omega (arith, r.distance), omega (arith, r.margin), place)

pub word-once : (cells before x y : List ℕ) (budget v w : ℕ) → AnsweredBy cells before x budget v → AnsweredBy cells before y budget w → (x ≡ y) × (v ≡ w)
word-once cells before x y budget v w a b =
    let (same, one) = answered-once cells before x y budget a.decoded b.decoded a.answered b.answered in
    (same, a.told ∙ ap decoded_word one ∙ sym b.told)
