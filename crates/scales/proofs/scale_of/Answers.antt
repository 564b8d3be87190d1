-- `scale_of` meets its contract. Assumes nothing.
use Rattle.std.proofs.Common.{◌≡◌, ℕ, ◌+◌, ◌-◌, ◌*◌, ◌^◌, length, take, drop, sym, ap, ◌∙◌, ap₂, arith, length-take-le}
use Rattle.text.specs.Lines.{before}
use Rattle.scales.specs.Scales.{exact_of, point}
use Rattle.scales.proofs.Reading.{both-parts, no_fraction, no_number, no-point, short-below, short-fits, short-more}
use Rattle.scales.proofs.scale_of.Goals as goal

pub slice_bounds-whole-end : goal.slice_bounds-whole-end
slice_bounds-whole-end c = sym (length-take-le _ _ c.end_of-end.ensures.1)

pub returns-then-not-is_short : goal.returns-then-not-is_short
returns-then-not-is_short c =
    let text = c.args.text.now in
    let at : c.end_of-end.result ≡ length (before point text) = omega (arith, c.end_of-end.ensures.0) in
    no_number text c.end_of-end.result at (sym c.is_short.ensures ∙ c.if-not-is_short.true)

pub worth-high-requires : goal.worth-high-requires
worth-high-requires c = short-more _ (sym c.is_short.ensures ∙ c.if-not-is_short.false)

pub overflow_mul-high : goal.overflow_mul-high
overflow_mul-high c =
    let h = sym c.is_short.ensures ∙ c.if-not-is_short.false in
    omega (arith, c.worth-high.ensures, short-below 3 _ h)

pub exact-requires : goal.exact-requires
exact-requires c =
    let h = sym c.is_short.ensures ∙ c.if-not-is_short.false in
    omega (arith, c.worth-high.ensures, short-below 3 _ h)

pub returns-then-end-text : goal.returns-then-end-text
returns-then-end-text c =
    let text = c.args.text.now in
    let at : c.end_of-end.result ≡ length (before point text) = omega (arith, c.end_of-end.ensures.0) in
    let h = sym c.is_short.ensures ∙ c.if-not-is_short.false in
    c.exact.ensures ∙ ap (λ (n : ℕ). exact_of (10000000000000000 * n)) c.worth-high.ensures
    ∙ no-point text c.end_of-end.result at h c.if-end-text.true

pub returns-then-not-is_short-2 : goal.returns-then-not-is_short-2
returns-then-not-is_short-2 c =
    let text = c.args.text.now in
    let at : c.end_of-end.result ≡ length (before point text) = omega (arith, c.end_of-end.ensures.0) in
    let h = sym c.is_short.ensures ∙ c.if-not-is_short.false in
    no_fraction text c.end_of-end.result at h c.if-end-text.false (sym c.is_short-2.ensures ∙ c.if-not-is_short-2.true)

pub worth-requires : goal.worth-requires
worth-requires c = sym c.is_short-2.ensures ∙ c.if-not-is_short-2.false

pub padded-low-requires : goal.padded-low-requires
padded-low-requires c =
    let h2 = sym c.is_short-2.ensures ∙ c.if-not-is_short-2.false in
    short-fits _ _ c.worth.ensures h2

pub overflow_mul-high-2 : goal.overflow_mul-high-2
overflow_mul-high-2 c =
    let h = sym c.is_short.ensures ∙ c.if-not-is_short.false in
    omega (arith, c.worth-high.ensures, short-below 3 _ h)

pub overflow_add-high : goal.overflow_add-high
overflow_add-high c =
    let h = sym c.is_short.ensures ∙ c.if-not-is_short.false in
    omega (arith, c.worth-high.ensures, c.padded-low.ensures.1, short-below 3 _ h)

pub exact-requires-2 : goal.exact-requires-2
exact-requires-2 c =
    let h = sym c.is_short.ensures ∙ c.if-not-is_short.false in
    omega (arith, c.worth-high.ensures, c.padded-low.ensures.1, short-below 3 _ h)

pub returns : goal.returns
returns c =
    let text = c.args.text.now in
    let at : c.end_of-end.result ≡ length (before point text) = omega (arith, c.end_of-end.ensures.0) in
    let h = sym c.is_short.ensures ∙ c.if-not-is_short.false in
    let h2 = sym c.is_short-2.ensures ∙ c.if-not-is_short-2.false in
    let end = c.end_of-end.result in
    let zeros = 16 - length (take (length text - (end + 1)) (drop (end + 1) text)) in
    let low = c.padded-low.ensures.0 ∙ ap (λ (n : ℕ). n * 10 ^ zeros) c.worth.ensures in
    let high = c.worth-high.ensures in
    c.exact-2.ensures
    ∙ both-parts text end at h c.if-end-text.false h2 _
    (ap₂ (λ (a b : ℕ). 10000000000000000 * a + b) high low)
