-- A step of `keys`, case by case. Assumes nothing.
use mathlib.Core.Path.{◌≡◌}
use mathlib.Core.Bool.{true, false}
use mathlib.Core.List.{List, [], ◌∷◌}
use Prim.Native.Nat.{ℕ, ◌<◌, ◌≤◌}
use native.Mathlib.Omega.{arith}
use lib.ListN.{get_or, length}
use borrow.Author.Tests.{eq-eqb, ne_eqb, lt-ltb, le-ltb}
use Rattle.runs.specs.Chain.{Buffer}
use Rattle.summing.specs.Sums.{sum_of}
use Rattle.keys_step.specs.Summed.{add_input, added_to, early, not_taken, step, too_high}

pub began : (run : ℕ) (sum input s : Buffer) → run ≡ 0 → s ≡ input → s ≡ added_to run sum input
unfolding added_to
began run sum input s z e = rw (eq-eqb run 0 z) e

pub went_on : (run : ℕ) (sum input s : Buffer) → (run ≡ 0 → ⊥) → s ≡ sum_of (sum ∷ input ∷ []) (λ (b : Buffer). b) → s ≡ added_to run sum input
unfolding added_to
went_on run sum input s ne e = rw (ne_eqb run 0 ne) e

pub too_short : (run frame : ℕ) (sum input : Buffer) (line : List ℕ) → (length input ≡ length sum → ⊥) → line ≡ not_taken run frame early
    → step false sum line ≡ add_input run frame sum input
unfolding add_input
too_short run frame sum input line ne e = rw (ne_eqb (length input) (length sum) ne, e)

pub too-high : (run frame : ℕ) (sum input : Buffer) (line : List ℕ) (k : ℕ) → length input ≡ length sum → k ≡ get_or input 0 0 → 7 < k
    → line ≡ not_taken run frame too_high → step false sum line ≡ add_input run frame sum input
unfolding add_input
too-high run frame sum input line k same is high e =
    rw (eq-eqb (length input) (length sum) same, le-ltb (get_or input 0 0) 8 (omega arith), e)

pub taken : (run frame : ℕ) (sum input s : Buffer) (line : List ℕ) (k : ℕ) → length input ≡ length sum → k ≡ get_or input 0 0 → k ≤ 7
    → s ≡ added_to run sum input → line ≡ [] → step true s line ≡ add_input run frame sum input
unfolding add_input
taken run frame sum input s line k same is low e f =
    rw (eq-eqb (length input) (length sum) same, lt-ltb (get_or input 0 0) 8 (omega arith), e, f)
