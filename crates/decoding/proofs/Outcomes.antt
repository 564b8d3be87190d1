-- S-12 has one outcome; no frame is nearer by more than the margin; which byte marks an unread cell makes no difference. Assumes nothing.
use mathlib.Core.Path.{◌≡◌, sym, ap, ◌∙◌, subst}
use mathlib.Core.List.{List}
use Prim.Native.Nat.{ℕ, ◌+◌, ◌*◌, ◌^◌, ◌≤◌}
use native.Mathlib.Omega.{arith}
use lib.ListN.{length}
use Rattle.bits.specs.Bits.{number}
use Rattle.runs.specs.declared.Answer.TheVariants.{Success}
use Rattle.trellis.specs.Cells.{Frame, scrambled_of, coded_bits, distance}
use Rattle.trellis.specs.Paths.{start, path_coded, path_distance}
use Rattle.decoding.specs.declared.Decoded.{Decoded}
use Rattle.decoding.specs.Nearness.{rank, Nearest, Margin}
use Rattle.decoding.specs.Outcomes.{lengths, judged, Answered}
use Rattle.decoding.proofs.Answering.{budget-low, is-success}
use Rattle.decoding.proofs.Ranking.{nearest-once}
use Rattle.decoding.proofs.Margins.{within-margin, margin-once}
use Rattle.decoding.proofs.Reading.{ReadAlike, apart-alike}

decoded-equal : (r s : Decoded) → r.answer ≡ s.answer → r.distance ≡ s.distance → r.margin ≡ s.margin → r ≡ s
decoded-equal r s a d m = λ i. record { answer = a i; distance = d i; margin = m i }

-- S-12 has one outcome
pub answered-once : (cells before x y : List ℕ) (budget : ℕ) (r s : Decoded) → Answered cells before x budget r → Answered cells before y budget s
    → (x ≡ y) × (r ≡ s)
answered-once cells before x y budget r s a b = go (is-success (judged cells before budget))
  where
    answers : r.answer ≡ s.answer
    answers = a.answer ∙ sym b.answer

    go : Dec (judged cells before budget ≡ Success) → (x ≡ y) × (r ≡ s)
    go (yes e) =
        let m = a.named e in
        let n = b.named e in
        let f : x ≡ y = nearest-once cells budget x y m.nearest n.nearest in
        let d : r.distance ≡ s.distance = m.distance ∙ ap (λ (g : List ℕ). distance cells (scrambled_of g)) f ∙ sym n.distance in (
          f,
          decoded-equal r s answers d
              (margin-once cells budget s.distance r.margin s.margin (budget-low cells before budget e)
              (subst (λ (k : ℕ). Margin cells budget k r.margin) d m.margin) n.margin),
        )
    go (no e) =
        let m = a.refused e in
        let n = b.refused e in
        (m.unchanged ∙ sym n.unchanged, decoded-equal r s answers (m.distance ∙ sym n.distance) (m.margin ∙ sym n.margin))

-- S-12: no frame at all is nearer than the answer by more than the margin
pub no-nearer : (cells before after : List ℕ) (budget : ℕ) (r : Decoded) → Answered cells before after budget r → r.answer ≡ Success
    → (other : List ℕ) → Frame other → r.distance ≤ distance cells (scrambled_of other) + r.margin
no-nearer cells before after budget r a e other shape =
    let j : judged cells before budget ≡ Success = sym a.answer ∙ e in
    let n = a.named j in
    let m = subst (λ (d : ℕ). Margin cells budget d r.margin) n.distance n.margin in
    omega (arith, n.distance, within-margin cells budget after r.margin (budget-low cells before budget j) n.nearest m other shape)

-- ---- which byte marks an unread cell

module _ (cells others : List ℕ) (h : ReadAlike cells others) (e : length cells ≡ length others) where
  distance-alike : (s : ℕ → ℕ) → distance others s ≡ distance cells s
  unfolding distance
  distance-alike s = sym (apart-alike cells others (coded_bits s) 200 (omega arith) h)

  path-alike : (x : ℕ → ℕ) → path_distance others x ≡ path_distance cells x
  unfolding path_distance
  path-alike x = sym (apart-alike cells others (path_coded x) 200 (omega arith) h)

  rank-alike : (s : ℕ → ℕ) → rank others s ≡ rank cells s
  unfolding rank
  rank-alike s = ap (λ (d : ℕ). (d * 64 + start s) * 2 ^ 80 + number 80 s) (distance-alike s)

  judged-alike : (before : List ℕ) (budget : ℕ) → judged others before budget ≡ judged cells before budget
  unfolding judged lengths
  judged-alike before budget = rw e

  margin-alike : (budget d m : ℕ) → Margin cells budget d m → Margin others budget d m
  margin-alike budget d m a =
      record {
        all = a.all;
        some = λ l.
            let s = a.some l in (
              s.0,
              record {
                path = s.1.path;
                bits = s.1.bits;
                reached = path-alike s.1.path ∙ s.1.reached;
                under = λ x b. omega (arith, s.1.under x b, path-alike x);
              },
              s.2,
            );
      }

  nearest-alike : (budget : ℕ) (frame : List ℕ) → Nearest cells budget frame → Nearest others budget frame
  nearest-alike budget frame a =
      record {
        shape = a.shape;
        tried = a.tried;
        first = λ f s l. omega (arith, a.first f s l, rank-alike (scrambled_of frame), rank-alike (scrambled_of f));
      }

  -- the outcome is the same
  pub answered-alike : (before after : List ℕ) (budget : ℕ) (r : Decoded) → Answered cells before after budget r → Answered others before after budget r
  answered-alike before after budget r a =
      record {
        answer = a.answer ∙ sym (judged-alike before budget);
        named = λ s.
            let n = a.named (sym (judged-alike before budget) ∙ s) in
            record {
              nearest = nearest-alike budget after n.nearest;
              distance = n.distance ∙ sym (distance-alike (scrambled_of after));
              margin = margin-alike budget r.distance r.margin n.margin;
            };
        refused = λ s. a.refused (λ t. s (judged-alike before budget ∙ t));
      }
