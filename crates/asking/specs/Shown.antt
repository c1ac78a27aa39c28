-- What an answer to a question says of a run, and what shows it.
-- Assumes nothing.
use Rattle.std.specs.Prelude.{◌≡◌, ℕ, zero, suc, ◌+◌, ◌*◌, ◌≤◌, List, [], ◌∷◌, ◌++◌, length, slice_index, slice_index_or}
use Rattle.records.specs.declared.doing.Kind.{Kind}
use Rattle.records.specs.declared.doing.Kind.TheVariants.{Neither, Sends, Gets}
use Rattle.records.specs.declared.doing.Doing.{Doing}
use Rattle.records.specs.Record.{Record, kind_of, sign_of, amount_of, doings_in}
use Rattle.runs.specs.Run.{Run}
use Rattle.runs.specs.Moment.{Cut}
use Rattle.moments.specs.Cuts.{nothing}
use Rattle.moments.specs.Ways.{cuts_along}
use Rattle.moments.specs.Signs.{May, First, Must, Avoids}
use Rattle.moments.specs.Stretches.{Stretch, Held}
use Rattle.moments.specs.Amounts.{total, Least, Most}
use Rattle.moments.specs.Flows.{Flows, over, gets, grows, shrinks, Shows}
use Rattle.answers.specs.Answer.{Question, may, must, Answer, may_yes, may_no, must_yes, must_no, Counted}
use Rattle.answers.specs.Answer as said

-- a list as a number, or a stretch, for each machine
abbrev pub cut_of : List ℕ → Cut
cut_of xs i = slice_index xs i

abbrev pub stretch_of : List Stretch → ℕ → Stretch
stretch_of ts i = slice_index_or ts i (record { from = 0; to = 0 })

-- flows in the order of the bytes: machine by machine, of each doing that to the one before, 0 for the first, and then, if it gets a letter, that to its sending
abbrev pub flows_of_doing : Flows → Run → ℕ → ℕ → Kind → List ℕ
flows_of_doing f r i m Neither = f.own i m ∷ []
flows_of_doing f r i m (Sends k) = f.own i m ∷ []
flows_of_doing f r i m (Gets k) = f.own i m ∷ (over (gets i m) f.letter r.letters ∷ [])

-- of doings m + 1 to m + k of machine i
abbrev pub flows_of_machine : Flows → List Record → Run → ℕ → ℕ → ℕ → List ℕ
flows_of_machine f rs r i m zero = []
flows_of_machine f rs r i m (suc k) = flows_of_doing f r i (m + 1) (kind_of rs i (m + 1)) ++ flows_of_machine f rs r i (m + 1) k

-- of k machines from i on
abbrev pub flows_of_machines : Flows → List Record → Run → ℕ → ℕ → List ℕ
flows_of_machines f rs r i zero = []
flows_of_machines f rs r i (suc k) = flows_of_machine f rs r i 0 (r.did i) ++ flows_of_machines f rs r (i + 1) k

abbrev pub Listed : Flows → List Record → Run → List ℕ → Type 0
Listed f rs r flows = flows ≡ flows_of_machines f rs r 0 r.count

-- The answers to each question, and when they are right: the first moment of all yes, or that there is none; stretches that show that every way has one, or a way that has none; the least, or the most, at the lowest moment that has it, with flows that show it.
pub data Answers (rs : List Record) (r : Run) : Question → Answer → Type 0 where
  may_be : {cut : List ℕ} → length cut ≡ r.count → First r (sign_of rs) (cut_of cut) → Answers rs r may (may_yes cut)
  never_be : (May r (sign_of rs) → ⊥) → Answers rs r may may_no
  must_be : {ts : List Stretch} → length ts ≡ r.count → Held r (sign_of rs) (stretch_of ts) → Must r (sign_of rs) → Answers rs r must (must_yes ts)
  need_not : {way : List ℕ} → Avoids r (sign_of rs) (cuts_along nothing way) → Answers rs r must (must_no way)
  at_least : {sum : ℕ} {cut flows : List ℕ} (f : Flows) → length cut ≡ r.count → sum ≡ total r (amount_of rs) (cut_of cut) → Least r (amount_of rs) (cut_of cut) → Shows r (grows (amount_of rs)) f (cut_of cut) → Listed f rs r flows → Answers rs r said.Question.least (said.Answer.least sum cut flows)
  at_most : {sum : ℕ} {cut flows : List ℕ} (f : Flows) → length cut ≡ r.count → sum ≡ total r (amount_of rs) (cut_of cut) → Most r (amount_of rs) (cut_of cut) → Shows r (shrinks (amount_of rs)) f (cut_of cut) → Listed f rs r flows → Answers rs r said.Question.most (said.Answer.most sum cut flows)

-- how many letters were got
abbrev pub got_by : Kind → ℕ
got_by Neither = 0
got_by (Sends k) = 0
got_by (Gets k) = 1

abbrev pub got_among : List Doing → ℕ
got_among [] = 0
got_among (d ∷ ds) = got_by d.kind + got_among ds

abbrev pub got_in : List Record → ℕ
got_in [] = 0
got_in (r ∷ rs) = got_among r.doings + got_in rs

-- no more steps than there may be: with n machines, d doings and l letters that were got, 4 n (d + n) pairs and 2 (d + l) (d + n) ways of flow
pub record InSteps (rs : List Record) (a : Counted) : Type 0 where
  pub pairs : a.pairs ≤ 4 * length rs * (doings_in rs + length rs)
  pub ways : a.ways ≤ 2 * (doings_in rs + got_in rs) * (doings_in rs + length rs)
