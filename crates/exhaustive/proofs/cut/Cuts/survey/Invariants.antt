use Rattle.std.proofs.Common.{◌≡◌, vec_items, vec_len}
use Rattle.exhaustive.specs.Survey.{SurveyedOf}
use Rattle.exhaustive.proofs.Marking.{Sofar}
use Rattle.exhaustive.proofs.Turning.{AtTurn}
use Rattle.exhaustive.proofs.cut.Cuts.survey.Given as goal

-- those before the next one are marked, and have been seen
abbrev pub invariant-loop-cut : goal.invariant-loop-cut
invariant-loop-cut l = record {
  marked : AtTurn l.self.run.now l.self.count (Sofar l.self.run.now (vec_items l.marks)) l.cut-iterator.next;
  seen : AtTurn l.self.run.now l.self.count (λ n. SurveyedOf l.self.run.now n l.seen) l.cut-iterator.next;
  long : vec_len l.marks ≡ l.self.count;
}
