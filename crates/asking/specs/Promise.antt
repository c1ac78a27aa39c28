-- THE MAIN PROMISE: what a reply to a question on files of records says, for every list of files.
-- Assumes nothing.
use Rattle.std.specs.Prelude.{ℕ, List}
use Rattle.records.specs.declared.refusal.Refusal.{Refusal}
use Rattle.records.specs.Record.{Record}
use Rattle.runs.specs.Run.{Run}
use Rattle.order.specs.Asked.{RefusedRightly, RecordedRun}
use Rattle.answers.specs.Answer.{Question, Counted, Reply, answered}
use Rattle.answers.specs.Answer as said
use Rattle.asking.specs.Shown.{Answers, InSteps}

-- The files are refused, by the lowest number that there is a reason for, with the first place at which it shows; or the files are records, and the answer is right of the run that they make, in no more steps than there may be.
pub data Right (files : List (List ℕ)) (q : Question) : Reply → Type 0 where
  refused : {why : Refusal} → RefusedRightly files why → Right files q (said.Reply.refused why)
  decided : {a : Counted} (rs : List Record) (r : Run) → RecordedRun files rs r → Answers rs r q a.answer → InSteps rs a → Right files q (answered a)
