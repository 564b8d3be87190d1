-- `lookup_frame` meets its contract: the length decides, and then what the sixteen control blocks are. Assumes nothing.
use mathlib.Core.Path.{◌≡◌, sym, ap, ◌∙◌}
use native.Mathlib.Omega.{arith}
use Rattle.std.specs.Prelude.{Result, Ok, Err, MatchResult, IsErrAnd}
use Rattle.blockset.specs.declared.FrameNumbers.{FrameNumbers}
use Rattle.blockset.specs.declared.SetFault.{SetFault}
use Rattle.runs.specs.declared.Answer.{Answer}
use Rattle.queries.specs.LookupFrame.{answered, told, values}
use Rattle.queries.proofs.Framed.{other_length, of_blocks}
use Rattle.queries.proofs.Valued.{valued}
use Rattle.queries.proofs.blocks.lookup_frame.Goals as goal

pub returns-then-control-ne4096 : goal.returns-then-control-ne4096
returns-then-control-ne4096 c = valued values (sym (other_length _ c.if-control-ne4096.true))

-- what became of the fault
told-is : (said : Result FrameNumbers SetFault) (r : Result FrameNumbers Answer)
    → MatchResult said (λ numbers. r ≡ Ok numbers) (λ fault. IsErrAnd r (λ answer. answer ≡ answered fault)) → r ≡ told said
told-is (Ok numbers) r e = e
told-is (Err fault) (Ok numbers) e = absurd e
told-is (Err fault) (Err answer) e = ap Err e

pub returns-in_err-mode : goal.returns-in_err-mode
returns-in_err-mode c =
    let fault : Err c.in_err-mode.field-0.0 ≡ told c.lookup_frame.result = told-is _ _ c.in_err-mode.ensures.cases in
    let refused : c.from_residual.result ≡ Err c.in_err-mode.field-0.0 = grind arith in
    valued values (refused ∙ fault ∙ ap told c.lookup_frame.ensures ∙ sym (of_blocks _ c.if-control-ne4096.false))

pub returns : goal.returns
returns c =
    let numbers : Ok c.in_ok-mode.field-0 ≡ told c.lookup_frame.result = told-is _ _ c.in_ok-mode.ensures.cases in
    valued values (numbers ∙ ap told c.lookup_frame.ensures ∙ sym (of_blocks _ c.if-control-ne4096.false))
