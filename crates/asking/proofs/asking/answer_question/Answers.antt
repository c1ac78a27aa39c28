use Rattle.std.proofs.Common.{refl}
use Rattle.records.specs.Reading.{files_of}
use Rattle.records.proofs.HandedOn.{handed_on}
use Rattle.answers.specs.Model.{counted_of}
use Rattle.asking.specs.Promise.{refused}
use Rattle.asking.proofs.SaidOfRecords.{may_right, may_steps, of_question}
use Rattle.asking.proofs.asking.answer_question.Goals as goal

pub returns-in_err-asked-clause-refused : goal.returns-in_err-asked-clause-refused
returns-in_err-asked-clause-refused c =
    handed_on c.from_residual.result c.in_err-asked.field-0.0 _ _ c.from_residual.ensures.1 (λ why h whole alike. refused (h whole alike)) c.in_err-asked.ensures.refused

pub decide_may-requires : goal.decide_may-requires
decide_may-requires c = record { order = (c.in_ok-asked.ensures.ok (files_of c.args.files.now) refl).order }

pub returns-clause-right : goal.returns-clause-right
returns-clause-right c = λ whole alike.
    let asked = c.in_ok-asked.asked in
    of_question whole c.args.question _ (may_right whole asked.matched asked.ordered (counted_of c.in_ok-counted.counted) (c.in_ok-asked.ensures.ok whole alike) c.in_ok-counted.ensures)

pub returns-clause-steps : goal.returns-clause-steps
returns-clause-steps c = λ whole alike.
    let asked = c.in_ok-asked.asked in
    may_steps whole asked.matched asked.ordered (counted_of c.in_ok-counted.counted) (c.in_ok-asked.ensures.ok whole alike) c.in_ok-counted.ensures
