use Rattle.std.proofs.Common.{Option, subst}
use Rattle.std.proofs.lemmas.Bool.{both_ways}
use Rattle.runs.specs.Model.{run_of}
use Rattle.answers.specs.declared.answer.Counted.{Counted}
use Rattle.answers.specs.Model.{counted_of, AnswerRead}
use Rattle.checker.specs.Looking.{IsMay}
use Rattle.checker.proofs.looking.look.Goals as goal
use Rattle.checker.proofs.looking.look.Goals.{After-holds}

-- the bytes are an answer's in form
in_form : (c : After-holds) → IsMay (run_of c.args.ordered.now.run) c.args.bytes.now (counted_of c.in-Some.counted)
in_form c =
    let P : Option Counted → Type 0 = AnswerRead c.args.bytes.now in
    let read = subst P c.in-Some.is c.in_ok-counted.ensures in
    record { written = read.0; form = c.fits.ensures.0 c.if-not-fits.false; pairs = read.2; ways = read.3 }

pub returns-then-holds : goal.returns-then-holds
returns-then-holds c = (counted_of c.in-Some.counted, in_form (goal.at.returns-then-holds c).After-holds, c.holds.ensures.0 c.if-holds.true)

pub returns : goal.returns
returns c = (counted_of c.in-Some.counted, in_form (goal.at.returns c).After-holds, λ h. both_ways c.holds.result c.if-holds.false (c.holds.ensures.1 h))
