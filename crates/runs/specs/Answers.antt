-- Documents 01 and 02, the table of causes: the number and the place that each answer stands for.
use Rattle.std.specs.Prelude.{ℕ}
use Rattle.runs.specs.declared.Answer.{Answer}
use Rattle.runs.specs.declared.Answer.TheVariants.{Success, ModeNotCovered, StateNotValid, WrongLength, WrongControl, MainNotCoded, PidsNotCoded, FillNotZero, ExtendedNotCoded, ReservedTooHigh, SharesTooMany, SymbolTooHigh, ScaleNotUsable, MixedControl, NoFrameFits, SeveralFit, WrongBudget, WrongMark, WrongVersion, WrongEnd}

abbrev pub number_of : Answer → ℕ
number_of Success = 0
number_of ModeNotCovered = 1
number_of StateNotValid = 2
number_of (WrongLength place) = 3
number_of (WrongControl block) = 4
number_of (MainNotCoded frame) = 5
number_of (PidsNotCoded frame) = 6
number_of (FillNotZero cell) = 7
number_of (ExtendedNotCoded frame) = 8
number_of ReservedTooHigh = 9
number_of SharesTooMany = 10
number_of SymbolTooHigh = 11
number_of (ScaleNotUsable place) = 12
number_of (MixedControl block) = 13
number_of NoFrameFits = 14
number_of SeveralFit = 15
number_of WrongBudget = 16
number_of WrongMark = 17
number_of WrongVersion = 18
number_of WrongEnd = 19

abbrev pub place_of : Answer → ℕ
place_of Success = 0
place_of ModeNotCovered = 0
place_of StateNotValid = 0
place_of (WrongLength place) = place
place_of (WrongControl block) = block
place_of (MainNotCoded frame) = frame
place_of (PidsNotCoded frame) = frame
place_of (FillNotZero cell) = cell
place_of (ExtendedNotCoded frame) = frame
place_of ReservedTooHigh = 0
place_of SharesTooMany = 0
place_of SymbolTooHigh = 0
place_of (ScaleNotUsable place) = place
place_of (MixedControl block) = block
place_of NoFrameFits = 0
place_of SeveralFit = 0
place_of WrongBudget = 0
place_of WrongMark = 0
place_of WrongVersion = 0
place_of WrongEnd = 0

-- the one thing on success, the other on each refusal
unfoldable pub on_success : {A : Type 0} → Answer → A → A → A
on_success Success done refused = done
on_success ModeNotCovered done refused = refused
on_success StateNotValid done refused = refused
on_success (WrongLength place) done refused = refused
on_success (WrongControl block) done refused = refused
on_success (MainNotCoded frame) done refused = refused
on_success (PidsNotCoded frame) done refused = refused
on_success (FillNotZero cell) done refused = refused
on_success (ExtendedNotCoded frame) done refused = refused
on_success ReservedTooHigh done refused = refused
on_success SharesTooMany done refused = refused
on_success SymbolTooHigh done refused = refused
on_success (ScaleNotUsable place) done refused = refused
on_success (MixedControl block) done refused = refused
on_success NoFrameFits done refused = refused
on_success SeveralFit done refused = refused
on_success WrongBudget done refused = refused
on_success WrongMark done refused = refused
on_success WrongVersion done refused = refused
on_success WrongEnd done refused = refused
