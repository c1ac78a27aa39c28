use Rattle.checker.proofs.SaidOfRecords.{may_judged, of_question}
use Rattle.checker.proofs.OneVerdict.{one_verdict}
use Rattle.checker.proofs.judging.judge.Goals as goal

pub returns-in_err-refused-in-Err-clause-one : goal.returns-in_err-refused-in-Err-clause-one
returns-in_err-refused-in-Err-clause-one c = one_verdict

pub returns-in_ok-refused-in-Err-clause-one : goal.returns-in_ok-refused-in-Err-clause-one
returns-in_ok-refused-in-Err-clause-one c = one_verdict

pub returns-in_ok-verdict-in-Ok-clause-judged : goal.returns-in_ok-verdict-in-Ok-clause-judged
returns-in_ok-verdict-in-Ok-clause-judged c = λ whole alike.
    let asked = c.in-Ok.asked in
    let v = c.in_ok-verdict-in-Ok.verdict in
    of_question whole c.args.question c.args.bytes.now v (may_judged whole asked.matched asked.ordered c.args.bytes.now v (c.in-Ok.ensures.ok whole alike) c.in_ok-verdict-in-Ok.ensures)

pub returns-in_ok-verdict-in-Ok-clause-one : goal.returns-in_ok-verdict-in-Ok-clause-one
returns-in_ok-verdict-in-Ok-clause-one c = one_verdict

pub returns-in_err-verdict-in-Ok-clause-one : goal.returns-in_err-verdict-in-Ok-clause-one
returns-in_err-verdict-in-Ok-clause-one c = one_verdict
