-- `decoding::nearest` meets its contract. Assumes nothing.
use mathlib.Core.Path.{refl}
use native.Mathlib.Omega.{arith}
use Rattle.trellis.proofs.Scoring.{tabled-cheap}
use Rattle.decoding.proofs.Margins.{margin-fits, margin-of, paths-of}
use Rattle.decoding.proofs.Answering.{judged-cells, judged-frame, judged-none, judged-many, judged-right, length-not, budget-not, answered-refused, answered-found}
use Rattle.decoding.proofs.nearest.Goals as goal

pub returns-then-cells-ne200 : goal.returns-then-cells-ne200
returns-then-cells-ne200 c = answered-refused _ _ _ _ _ (length-not 0) (judged-cells _ _ _ c.if-cells-ne200.true) c.refused.ensures

pub returns-then-frame-ne10 : goal.returns-then-frame-ne10
returns-then-frame-ne10 c = answered-refused _ _ _ _ _ (length-not 1) (judged-frame _ _ _ c.if-cells-ne200.false c.if-frame-ne10.true) c.refused-then-frame-ne10.ensures

pub returns-then-budget-eq0 : goal.returns-then-budget-eq0
returns-then-budget-eq0 c = answered-refused _ _ _ _ _ budget-not (judged-none _ _ _ c.if-cells-ne200.false c.if-frame-ne10.false c.if-budget-eq0.true) c.refused-then-budget-eq0.ensures

pub returns-then-budget-gt64 : goal.returns-then-budget-gt64
returns-then-budget-gt64 c = answered-refused _ _ _ _ _ budget-not (judged-many _ _ _ c.if-cells-ne200.false c.if-frame-ne10.false c.if-budget-gt64.true) c.refused-then-budget-gt64.ensures

pub search-distance-requires : goal.search-distance-requires
search-distance-requires c =
    (omega (arith, c.if-budget-eq0.false), omega (arith, c.if-budget-gt64.false), c.if-frame-ne10.false, tabled-cheap _ _ c.costs-costs.ensures)

pub margin-margin-requires : goal.margin-margin-requires
margin-margin-requires c =
    let cells = c.args.cells.now in
    let t = c.costs-costs.ensures in
    let s = c.search-distance.ensures cells t in
    (omega (arith, c.if-budget-gt64.false), tabled-cheap _ _ t, λ m h. margin-fits cells _ _ s.1 m (paths-of cells _ t m h))

pub returns : goal.returns
returns c =
    let t = c.costs-costs.ensures in
    let s = c.search-distance.ensures c.args.cells.now t in
    answered-found _ _ _ _ _
    (judged-right _ _ _ c.if-cells-ne200.false c.if-frame-ne10.false (omega (arith, c.if-budget-eq0.false)) (omega (arith, c.if-budget-gt64.false)))
    refl
    record { nearest = s.0; distance = s.1; margin = margin-of c.args.cells.now _ t _ _ _ c.margin-margin.ensures }
