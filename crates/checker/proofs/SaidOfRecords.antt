-- A verdict on an answer to may, said of the records that make the run.
use Rattle.std.proofs.Common.{ℕ, List, vec_items}
use Rattle.records.specs.Record.{Record, records_of, sign_of}
use Rattle.letters.specs.declared.matched.Matched.{Matched}
use Rattle.runs.specs.Run.{Run}
use Rattle.runs.specs.Model.{run_of, signs_of}
use Rattle.order.specs.declared.ordered.Ordered.{Ordered}
use Rattle.order.specs.Asked.{InOrderAs, RecordedRun}
use Rattle.order.proofs.Recorded.{recorded_run}
use Rattle.moments.specs.Signs.{Says}
use Rattle.moments.proofs.Agreeing.{Agree, agree_back, first_agree, may_agree, signs_agree}
use Rattle.answers.specs.declared.question.Question as code
use Rattle.answers.specs.declared.question.Question.TheVariants as questions
use Rattle.answers.specs.Model.{question_of}
use Rattle.answers.specs.Answer.{Answer, may_yes, may_no, must_yes, must_no, Counted, may}
use Rattle.answers.specs.Answer as said
use Rattle.checker.specs.declared.verdict.Verdict.{Verdict}
use Rattle.checker.specs.declared.verdict.Verdict.TheVariants as verdict
use Rattle.checker.specs.Verdict.{Fits, may_yes_fits, may_no_fits, Holds, may_yes_holds, may_no_holds, IsAnswer, Judged}
use Rattle.checker.specs.Looking.{MayFits, MayHolds, IsMay, MayJudged}

module _ (rs : List Record) (r : Run) (s : Says) (same : Agree r s (sign_of rs)) where
  fits : (a : Answer) → MayFits r a → Fits rs r may a
  fits (may_yes cut) h = may_yes_fits h
  fits may_no h = may_no_fits
  fits (must_yes ts) h = absurd h
  fits (must_no way) h = absurd h
  fits (said.Answer.least sum cut flows) h = absurd h
  fits (said.Answer.most sum cut flows) h = absurd h

  fits_back : {a : Answer} → Fits rs r may a → MayFits r a
  fits_back (may_yes_fits h) = h
  fits_back may_no_fits = tt

  holds : (a : Answer) → MayHolds r s a → Holds rs r a
  holds (may_yes cut) h = may_yes_holds (first_agree r s (sign_of rs) same _ h)
  holds may_no h = may_no_holds (λ x. h (may_agree r (sign_of rs) s (agree_back r s (sign_of rs) same) x))
  holds (must_yes ts) h = absurd h
  holds (must_no way) h = absurd h
  holds (said.Answer.least sum cut flows) h = absurd h
  holds (said.Answer.most sum cut flows) h = absurd h

  holds_back : (a : Answer) → MayFits r a → Holds rs r a → MayHolds r s a
  holds_back (may_yes cut) f (may_yes_holds h) = first_agree r (sign_of rs) s (agree_back r s (sign_of rs) same) _ h
  holds_back may_no f (may_no_holds h) = λ x. h (may_agree r s (sign_of rs) same x)
  holds_back (must_yes ts) f h = absurd f
  holds_back (must_no way) f h = absurd f
  holds_back (said.Answer.least sum cut flows) f h = absurd f
  holds_back (said.Answer.most sum cut flows) f h = absurd f

  is_answer : (bytes : List ℕ) (a : Counted) → IsMay r bytes a → IsAnswer rs r may bytes a
  is_answer bytes a h = record { written = h.written; form = fits a.answer h.form; pairs = h.pairs; ways = h.ways }

  is_may : (bytes : List ℕ) (a : Counted) → IsAnswer rs r may bytes a → IsMay r bytes a
  is_may bytes a h = record { written = h.written; form = fits_back h.form; pairs = h.pairs; ways = h.ways }

  judged : (fs : List (List ℕ)) (bytes : List ℕ) (v : Verdict) → RecordedRun fs rs r → MayJudged r s bytes v → Judged fs may bytes v
  judged fs bytes verdict.Shown made (a, is, h) = (rs, r, made, (a, is_answer bytes a is, holds a.answer h))
  judged fs bytes (verdict.Refused why) made h = absurd h
  judged fs bytes verdict.NotItsForm made none = (rs, r, made, λ a is. none a (is_may bytes a is))
  judged fs bytes verdict.NotShown made (a, is, off) = (rs, r, made, (a, is_answer bytes a is, λ h. off (holds_back a.answer is.form h)))

pub may_judged : (fs : List (List ℕ)) (m : Matched) (o : Ordered) (bytes : List ℕ) (v : Verdict) → InOrderAs fs m o → MayJudged (run_of o.run) (signs_of o.run) bytes v → Judged fs may bytes v
may_judged fs m o bytes v h told =
    let rs = records_of (vec_items m.records.list) in
    judged rs (run_of o.run) (signs_of o.run) (signs_agree rs o.run h.run) fs bytes v (recorded_run fs m o h) told

-- the questions that are judged so far
pub of_question : (fs : List (List ℕ)) (q : code.Question) (bytes : List ℕ) (v : Verdict) → Judged fs may bytes v → Judged fs (question_of q) bytes v
of_question fs questions.May bytes v h = h
