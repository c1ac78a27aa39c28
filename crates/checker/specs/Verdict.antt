-- What a check of an answer says, and exactly when.
-- Assumes nothing.
use Rattle.std.specs.Prelude.{◌≡◌, ℕ, ◌^◌, ◌<◌, ◌≤◌, List, length, Some, None, Option}
use Rattle.records.specs.Record.{Record, sign_of, amount_of}
use Rattle.records.specs.Refusal.{refusal_number}
use Rattle.runs.specs.Run.{Run}
use Rattle.runs.specs.Moment.{Moment}
use Rattle.order.specs.Turns.{turns_of}
use Rattle.order.specs.Asked.{RefusedRightly, RecordedRun}
use Rattle.moments.specs.Cuts.{nothing}
use Rattle.moments.specs.Ways.{cuts_along}
use Rattle.moments.specs.Signs.{May, First, Avoids}
use Rattle.moments.specs.Stretches.{Stretch, Held}
use Rattle.moments.specs.Amounts.{total, doings}
use Rattle.moments.specs.Flows.{Flows, grows, shrinks, Shows}
use Rattle.answers.specs.Answer.{Question, may, must, Answer, may_yes, may_no, must_yes, must_no, Counted}
use Rattle.answers.specs.Answer as said
use Rattle.answers.specs.Bytes.{counted_bytes}
use Rattle.asking.specs.Shown.{cut_of, stretch_of, Listed}
use Rattle.checker.specs.declared.verdict.Verdict.{Verdict}
use Rattle.checker.specs.declared.verdict.Verdict.TheVariants as verdict

-- none for what is shown
abbrev pub verdict_number : Verdict → Option ℕ
verdict_number verdict.Shown = None
verdict_number (verdict.Refused why) = Some (refusal_number why)
verdict_number verdict.NotItsForm = Some 5
verdict_number verdict.NotShown = Some 6

abbrev pub CutFits : Run → List ℕ → Type 0
CutFits r cut = (length cut ≡ r.count) × ((i : ℕ) → i < r.count → cut_of cut i ≤ r.did i)

-- an answer in form: to that question, with numbers that this run has
pub data Fits (rs : List Record) (r : Run) : Question → Answer → Type 0 where
  may_yes_fits : {cut : List ℕ} → CutFits r cut → Fits rs r may (may_yes cut)
  may_no_fits : Fits rs r may may_no
  must_yes_fits : {ts : List Stretch} → length ts ≡ r.count → ((i : ℕ) → i < r.count → ((stretch_of ts i).from ≤ (stretch_of ts i).to) × ((stretch_of ts i).to ≤ r.did i)) → Fits rs r must (must_yes ts)
  must_no_fits : {way : List ℕ} → length way ≡ doings r → ((i : ℕ) → i < r.count → turns_of way i ≡ r.did i) → Fits rs r must (must_no way)
  least_fits : {sum : ℕ} {cut flows : List ℕ} (f : Flows) → CutFits r cut → sum < 2 ^ 64 → ((i : ℕ) → f.own i 1 ≡ 0) → Listed f rs r flows → Fits rs r said.Question.least (said.Answer.least sum cut flows)
  most_fits : {sum : ℕ} {cut flows : List ℕ} (f : Flows) → CutFits r cut → sum < 2 ^ 64 → ((i : ℕ) → f.own i 1 ≡ 0) → Listed f rs r flows → Fits rs r said.Question.most (said.Answer.most sum cut flows)

-- what a check looks at: for may the search anew, else what the answer brings along
pub data Holds (rs : List Record) (r : Run) : Answer → Type 0 where
  may_yes_holds : {cut : List ℕ} → First r (sign_of rs) (cut_of cut) → Holds rs r (may_yes cut)
  may_no_holds : (May r (sign_of rs) → ⊥) → Holds rs r may_no
  must_yes_holds : {ts : List Stretch} → Held r (sign_of rs) (stretch_of ts) → Holds rs r (must_yes ts)
  must_no_holds : {way : List ℕ} → Avoids r (sign_of rs) (cuts_along nothing way) → Holds rs r (must_no way)
  least_holds : {sum : ℕ} {cut flows : List ℕ} (f : Flows) → Listed f rs r flows → sum ≡ total r (amount_of rs) (cut_of cut) → Moment r (cut_of cut) → Shows r (grows (amount_of rs)) f (cut_of cut) → Holds rs r (said.Answer.least sum cut flows)
  most_holds : {sum : ℕ} {cut flows : List ℕ} (f : Flows) → Listed f rs r flows → sum ≡ total r (amount_of rs) (cut_of cut) → Moment r (cut_of cut) → Shows r (shrinks (amount_of rs)) f (cut_of cut) → Holds rs r (said.Answer.most sum cut flows)

-- the bytes are those of this answer in form to the question
pub record IsAnswer (rs : List Record) (r : Run) (q : Question) (bytes : List ℕ) (a : Counted) : Type 0 where
  pub written : bytes ≡ counted_bytes a
  pub form : Fits rs r q a.answer
  pub pairs : a.pairs < 2 ^ 64
  pub ways : a.ways < 2 ^ 64

-- Exactly when each verdict is given on files, a question and an answer's bytes: the records' refusal; 5 if the bytes are no answer in form to that question of this run; 6 if they are, but don't show what they say; and shown if they do.
abbrev pub Judged : List (List ℕ) → Question → List ℕ → Verdict → Type 0
Judged files q bytes verdict.Shown = (rs : List Record) × (r : Run) × RecordedRun files rs r × ((a : Counted) × IsAnswer rs r q bytes a × Holds rs r a.answer)
Judged files q bytes (verdict.Refused why) = RefusedRightly files why
Judged files q bytes verdict.NotItsForm = (rs : List Record) × (r : Run) × RecordedRun files rs r × ((a : Counted) → IsAnswer rs r q bytes a → ⊥)
Judged files q bytes verdict.NotShown = (rs : List Record) × (r : Run) × RecordedRun files rs r × ((a : Counted) × IsAnswer rs r q bytes a × (Holds rs r a.answer → ⊥))

-- No answer to may is judged in two ways.
abbrev pub OneVerdict : Type 0
OneVerdict = (files : List (List ℕ)) (bytes : List ℕ) (v w : Verdict) → Judged files may bytes v → Judged files may bytes w → verdict_number v ≡ verdict_number w
