-- For the code alone: what a sending leaves, and what a turn of the loop asks for and what it leaves.
use Rattle.std.specs.Prelude.{ℕ, ◌+◌, ◌*◌, ◌^◌, ◌≤◌, ◌<◌, ◌≡◌, List, length, Option}
use Rattle.runs.specs.Answers.{number_of}
use Rattle.runs.specs.Lent.{Matrices, Memory, Result}
use Rattle.calls.specs.declared.states.Outcome.{Outcome}
use Rattle.text.specs.Lines.{lines}
use Rattle.text.specs.Put.{Put}
use Rattle.sheetlines.specs.declared.entries.Entry.{Entry}
use Rattle.sheettext.specs.Texts.{value_in}
use Rattle.sheetlists.specs.Lists.{answers, asking, valued}
use Rattle.sheetturns.specs.declared.turns.Turn.{Turn}

-- a sending gave g
pub record Gave (g : Result) (r : Outcome) (m : Memory) (x : Matrices) : Type 0 where
  pub answer : r.answer ≡ g.answer
  pub state : r.state ≡ g.state
  pub memory : m ≡ g.memory
  pub matrices : x ≡ g.lent.signal.matrices

-- room for the answers of L1 frame t, and numbers that are not too great
pub record Asks (mode count t n3 n4 : ℕ) (list all out : List ℕ) (at : ℕ) : Type 0 where
  pub room : at + 782 * asking mode count t (lines list) + 782 ≤ length out
  pub list-short : length list < 2 ^ 32
  pub all_short : length all < 2 ^ 32
  pub few : count ≤ 64
  pub p3 : n3 ≤ 4608
  pub p4 : n4 ≤ 4608

-- a turn whose sending gave g, and put the answers of L1 frame t, with these workings, behind `at` if it succeeded
pub record Turned (g : Result) (working : Option Entry → List ℕ) (mode count t : ℕ) (list : List ℕ) (old new : List ℕ) (at : ℕ) (r : Turn) (m : Memory) : Type 0 where
  pub answer : r.answer ≡ g.answer
  pub state : r.state ≡ g.state
  pub memory : m ≡ g.memory
  pub size : length new ≡ length old
  pub text : number_of r.answer ≡ 0 → Put old new at r.end (782 * asking mode count t (lines list))
      (answers (valued working count (value_in g.lent.signal.matrices)) mode count t (lines list))
