-- What is decided of a run, said of the records that make it.
use Rattle.std.proofs.Common.{◌≡◌, ℕ, zero, suc, ◌+◌, ◌*◌, ◌<◌, ◌≤◌, List, length, take, vec_items, sym, ap, ◌∙◌, subst, mul-le-mul, add-one, arith}
use Rattle.std.proofs.lemmas.List.{take_all}
use Rattle.records.specs.declared.refusal.Refusal.{Refusal}
use Rattle.records.specs.Record.{Record, records_of, did_of, doings_in, sign_of}
use Rattle.letters.specs.declared.matched.Matched.{Matched}
use Rattle.letters.proofs.Machines.{doings_more}
use Rattle.runs.specs.Run.{Run, Makes}
use Rattle.runs.specs.Moment.{Cut}
use Rattle.runs.specs.Model.{run_of, signs_of}
use Rattle.order.specs.declared.ordered.Ordered.{Ordered}
use Rattle.order.specs.Asked.{InOrderAs, RefusedRightly}
use Rattle.order.proofs.Recorded.{recorded_run}
use Rattle.moments.specs.Amounts.{sum, doings}
use Rattle.moments.specs.Signs.{Says}
use Rattle.moments.proofs.Totals.{sum_begin, sum_more}
use Rattle.moments.proofs.Agreeing.{Agree, agree_back, first_agree, may_agree, signs_agree}
use Rattle.answers.specs.declared.question.Question as code
use Rattle.answers.specs.declared.question.Question.TheVariants as questions
use Rattle.answers.specs.Model.{question_of}
use Rattle.answers.specs.Answer.{Answer, may_yes, may_no, must_yes, must_no, Counted, Question, Reply, answered, refused, may}
use Rattle.answers.specs.Answer as said
use Rattle.asking.specs.Shown.{Answers, may_be, never_be}
use Rattle.asking.specs.Promise.{Right, decided}
use Rattle.asking.specs.Promise as right
use Rattle.order.specs.Vectors.{Vectors, VectorsOf}
use Rattle.moments.specs.Cuts.{Below}
use Rattle.may_must.specs.MaySearch.{LowestNo, Searched, begins, joins}
use Rattle.asking.specs.Steps.{EndsWith, MayTook, StepsTaken}
use Rattle.asking.specs.Decided.{MaySays, MayDecided}

-- all doings, of the run and of the records
doings_are : (rs : List Record) (did : Cut) → ((i : ℕ) → did i ≡ did_of rs i) → (n : ℕ) → n ≤ length rs → sum n (λ i m. m) did ≡ doings_in (take n rs)
doings_are rs did same zero le = sum_begin (λ i m. m) did
doings_are rs did same (suc n) le =
    let more = sum_more n (λ i m. m) did in
    let few = doings_more rs n (omega arith) in
    let step : sum (n + 1) (λ i m. m) did ≡ doings_in (take (n + 1) rs) = omega (arith, more, few, doings_are rs did same n (omega arith), same n) in
    subst (λ (k : ℕ). sum k (λ i m. m) did ≡ doings_in (take k rs)) (add-one n) step

pub doings_made : (rs : List Record) (r : Run) → Makes rs r → doings r ≡ doings_in rs
doings_made rs r makes = doings_are rs r.did makes.did r.count (omega (arith, makes.count)) ∙ ap doings_in (take_all r.count rs (omega (arith, makes.count)))

may_answers : (rs : List Record) (r : Run) (s : Says) → Agree r s (sign_of rs) → (a : Answer) → MaySays r s a → Answers rs r may a
may_answers rs r s same (may_yes cut) h = may_be h.0 (first_agree r s (sign_of rs) same _ h.1)
may_answers rs r s same may_no h = never_be (λ x. h (may_agree r (sign_of rs) s (agree_back r s (sign_of rs) same) x))
may_answers rs r s same (must_yes ts) h = absurd h
may_answers rs r s same (must_no way) h = absurd h
may_answers rs r s same (said.Answer.least sum cut flows) h = absurd h
may_answers rs r s same (said.Answer.most sum cut flows) h = absurd h

-- what is rightly refused is a right reply to any question
pub refused_right : (fs : List (List ℕ)) (q : Question) (why : Refusal) → RefusedRightly fs why → Right fs q (refused why)
refused_right fs q why h = right.refused h

-- n d pairs are within 4 n (d + n)
few_enough : (n d p : ℕ) → p ≤ n * d → p ≤ 4 * n * (d + n)
few_enough n d p le = let more : n * d ≤ (4 * n) * (d + n) = mul-le-mul (omega arith) (omega arith) in omega (arith, le, more)

pub may_right : (fs : List (List ℕ)) (m : Matched) (o : Ordered) (a : Counted) → InOrderAs fs m o → MayDecided (run_of o.run) (signs_of o.run) a → Right fs may (answered a)
may_right fs m o a h told =
    let rs = records_of (vec_items m.records.list) in
    let r = run_of o.run in
    let made = h.run in
    let n = made.makes.count in
    let d = doings_made rs r made.makes in
    let pairs : a.pairs ≤ length rs * doings_in rs = omega (arith, told.few, ap (λ (x : ℕ). x * doings r) n, ap (λ (x : ℕ). length rs * x) d) in
    decided rs r (recorded_run fs m o h) (may_answers rs r (signs_of o.run) (signs_agree rs o.run made) a.answer told.says) (record { pairs = few_enough (length rs) (doings_in rs) a.pairs pairs; ways = omega (arith, told.took.ways) })

-- the search goes the same way by signs that agree, since it stays among the doings that there are
module _ (r : Run) (s t : Says) (v : Vectors) (vectors : VectorsOf r v) (same : Agree r s t) where
  lowest_no : (c : Cut) → Below r c r.did → (i : ℕ) → LowestNo r s c i → LowestNo r t c i
  lowest_no c inside i no' = record {
    inside = no'.inside;
    below = λ j lt. let h : j < r.count = omega (arith, lt, no'.inside) in sym (same j (c j) h (inside j h)) ∙ no'.below j lt;
    here = sym (same i (c i) no'.inside (inside i no'.inside)) ∙ no'.here;
  }

  searched_same : {k : ℕ} {c : Cut} → Searched r s v k c → Below r c r.did × Searched r t v k c
  searched_same (begins same') = (λ i lt. omega (arith, same' i lt), begins same')
  searched_same (joins {c = c} i before no' more is) =
      let old = searched_same before in (
        λ j lt. omega (arith, is j lt, old.0 j lt, vectors.inside i (c i + 1) j no'.inside lt (omega arith) (omega arith)),
        joins i old.1 (lowest_no c old.0 i no') more is,
      )

  ends_same : (c : Cut) → Below r c r.did → (a : Answer) → EndsWith r s c a → EndsWith r t c a
  ends_same c inside (may_yes cut) h = h
  ends_same c inside may_no (i, no', end) = (i, lowest_no c inside i no', end)
  ends_same c inside (must_yes ts) h = h
  ends_same c inside (must_no way) h = h
  ends_same c inside (said.Answer.least sum cut flows) h = h
  ends_same c inside (said.Answer.most sum cut flows) h = h

took_same : (r : Run) (s t : Says) → Agree r s t → (a : Counted) → MayTook r s a → MayTook r t a
took_same r s t same a h =
    let there = searched_same r s t h.vectors h.told same h.searched in
    record { vectors = h.vectors; told = h.told; joins = h.joins; cut = h.cut; searched = there.1; ends = ends_same r s t h.vectors h.told same h.cut there.0 a.answer h.ends; pairs = h.pairs; ways = h.ways }

pub may_steps : (fs : List (List ℕ)) (m : Matched) (o : Ordered) (a : Counted) → InOrderAs fs m o → MayDecided (run_of o.run) (signs_of o.run) a → StepsTaken fs a
may_steps fs m o a h told =
    let rs = records_of (vec_items m.records.list) in
    (rs, run_of o.run, recorded_run fs m o h, took_same (run_of o.run) (signs_of o.run) (sign_of rs) (signs_agree rs o.run h.run) a told.took)

-- the questions that are answered so far
pub of_question : (fs : List (List ℕ)) (q : code.Question) (x : Reply) → Right fs may x → Right fs (question_of q) x
of_question fs questions.May x h = h
