-- `frames_length` meets its contract: a sum of lengths, none of which is great. Assumes nothing.
use mathlib.Core.Path.{◌≡◌, ap}
use mathlib.Core.List.{List}
use Prim.Native.Nat.{ℕ, ◌+◌}
use native.Mathlib.Omega.{arith}
use lib.ListN.{get_or}
use Rattle.runs.specs.MainChannels.{main_of, p1_len, p2_len}
use Rattle.runs.specs.Lengths.{pids_len}
use Rattle.layout.proofs.Cut.{lengths-small}
use Rattle.run_input.proofs.inputs.frames_length.Goals as goal

pub overflow_add-result : goal.overflow_add-result
overflow_add-result c = omega (arith, lengths-small _ _ _ _ c.sender_lengths-want.ensures)

pub overflow_add-result-2 : goal.overflow_add-result-2
overflow_add-result-2 c = omega (arith, lengths-small _ _ _ _ c.sender_lengths-want.ensures)

pub overflow_add-result-3 : goal.overflow_add-result-3
overflow_add-result-3 c = omega (arith, lengths-small _ _ _ _ c.sender_lengths-want.ensures)

pub overflow_add-result-4 : goal.overflow_add-result-4
overflow_add-result-4 c = omega (arith, lengths-small _ _ _ _ c.sender_lengths-want.ensures)

pub overflow_add-result-5 : goal.overflow_add-result-5
overflow_add-result-5 c = omega (arith, lengths-small _ _ _ _ c.sender_lengths-want.ensures)

pub returns : goal.returns
returns c =
    let mode = c.args.mode in
    let want : List ℕ = c.sender_lengths-want.result in
    let e0 : get_or want 0 0 ≡ p1_len (main_of mode) = ap (λ (l : List ℕ). get_or l 0 0) c.sender_lengths-want.ensures in
    let e1 : get_or want 1 0 ≡ pids_len = ap (λ (l : List ℕ). get_or l 1 0) c.sender_lengths-want.ensures in
    let e2 : get_or want 2 0 ≡ p2_len (main_of mode) = ap (λ (l : List ℕ). get_or l 2 0) c.sender_lengths-want.ensures in
    let e3 = c.capped-p3.ensures.0 in
    let e4 = c.capped-p4.ensures.0 in
    λ i. 1 + e0 i + e1 i + e2 i + e3 i + e4 i
