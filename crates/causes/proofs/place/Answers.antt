-- `place` meets its contract: each answer by its case. With 20 answers the search alone finds no proof. Assumes nothing.
use mathlib.Core.Path.{ap, sym}
use Rattle.runs.specs.Answers.{place_of}
use Rattle.causes.proofs.place.Goals as goal

pub returns-in-Success : goal.returns-in-Success
returns-in-Success c = sym (ap place_of c.in-Success.is)

pub returns-in-ModeNotCovered : goal.returns-in-ModeNotCovered
returns-in-ModeNotCovered c = sym (ap place_of c.in-ModeNotCovered.is)

pub returns-in-StateNotValid : goal.returns-in-StateNotValid
returns-in-StateNotValid c = sym (ap place_of c.in-StateNotValid.is)

pub returns-in-WrongLength : goal.returns-in-WrongLength
returns-in-WrongLength c = sym (ap place_of c.in-WrongLength.is)

pub returns-in-WrongControl : goal.returns-in-WrongControl
returns-in-WrongControl c = sym (ap place_of c.in-WrongControl.is)

pub returns-in-MainNotCoded : goal.returns-in-MainNotCoded
returns-in-MainNotCoded c = sym (ap place_of c.in-MainNotCoded.is)

pub returns-in-PidsNotCoded : goal.returns-in-PidsNotCoded
returns-in-PidsNotCoded c = sym (ap place_of c.in-PidsNotCoded.is)

pub returns-in-FillNotZero : goal.returns-in-FillNotZero
returns-in-FillNotZero c = sym (ap place_of c.in-FillNotZero.is)

pub returns-in-ExtendedNotCoded : goal.returns-in-ExtendedNotCoded
returns-in-ExtendedNotCoded c = sym (ap place_of c.in-ExtendedNotCoded.is)

pub returns-in-ReservedTooHigh : goal.returns-in-ReservedTooHigh
returns-in-ReservedTooHigh c = sym (ap place_of c.in-ReservedTooHigh.is)

pub returns-in-SharesTooMany : goal.returns-in-SharesTooMany
returns-in-SharesTooMany c = sym (ap place_of c.in-SharesTooMany.is)

pub returns-in-SymbolTooHigh : goal.returns-in-SymbolTooHigh
returns-in-SymbolTooHigh c = sym (ap place_of c.in-SymbolTooHigh.is)

pub returns-in-ScaleNotUsable : goal.returns-in-ScaleNotUsable
returns-in-ScaleNotUsable c = sym (ap place_of c.in-ScaleNotUsable.is)

pub returns-in-MixedControl : goal.returns-in-MixedControl
returns-in-MixedControl c = sym (ap place_of c.in-MixedControl.is)

pub returns-in-NoFrameFits : goal.returns-in-NoFrameFits
returns-in-NoFrameFits c = sym (ap place_of c.in-NoFrameFits.is)

pub returns-in-SeveralFit : goal.returns-in-SeveralFit
returns-in-SeveralFit c = sym (ap place_of c.in-SeveralFit.is)

pub returns-in-WrongBudget : goal.returns-in-WrongBudget
returns-in-WrongBudget c = sym (ap place_of c.in-WrongBudget.is)

pub returns-in-WrongMark : goal.returns-in-WrongMark
returns-in-WrongMark c = sym (ap place_of c.in-WrongMark.is)

pub returns-in-WrongVersion : goal.returns-in-WrongVersion
returns-in-WrongVersion c = sym (ap place_of c.in-WrongVersion.is)

pub returns-in-WrongEnd : goal.returns-in-WrongEnd
returns-in-WrongEnd c = sym (ap place_of c.in-WrongEnd.is)
