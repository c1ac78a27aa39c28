-- What all cuts come to.
use Rattle.std.proofs.Common.{ℕ, Bool, true, false, not, List, Some, None, vec_items, Decides, Option, refl, ◌∙◌, subst, arith}
use Rattle.std.proofs.lemmas.Bool.{both_ways}
use Rattle.records.specs.Record.{records_of, sign_of, amount_of}
use Rattle.letters.specs.declared.matched.Matched.{Matched}
use Rattle.runs.specs.declared.counts.Counts.{Counts}
use Rattle.runs.specs.Run.{Run, Done}
use Rattle.runs.specs.Model.{run_of, signs_of, amounts_of, counts_of}
use Rattle.order.specs.declared.ordered.Ordered.{Ordered}
use Rattle.order.specs.Asked.{InOrderAs}
use Rattle.moments.specs.Signs.{Says, Must, ComesTo, FirstOrNone}
use Rattle.moments.specs.Amounts.{Much}
use Rattle.moments.proofs.Avoiding.{must_be, must_not, must_decided}
use Rattle.moments.proofs.Extent.{may_decided, least_found, most_found}
use Rattle.order.proofs.Recorded.{recorded_run}
use Rattle.moments.proofs.Agreeing.{Agree, signs_agree, amounts_agree, agree_back, first_agree, may_agree, must_agree, least_agree, most_agree, total_agree}
use Rattle.exhaustive.specs.declared.findings.Findings.{Findings}
use Rattle.exhaustive.specs.declared.cut.Cuts as held
use Rattle.exhaustive.specs.Survey.{SurveyedOf}
use Rattle.exhaustive.specs.Looked.{Found, LookedAs, RepliedAs, Always}
use Rattle.exhaustive.proofs.Counting.{one_number}
use Rattle.exhaustive.proofs.Surveying.{count_all, first_all, least_all, most_all}

pub always : Always
always = record { number = one_number; may = may_decided; must = must_decided; least = least_found; most = most_found }

-- every way has a moment of all yes exactly if the run can't come to its end without
pub must_unless : (r : Run) → Done r → (s : Says) (b : Bool) → Decides b (ComesTo r s r.did) → Decides (not b) (Must r s)
must_unless r done s true told = (λ e. absurd (both_ways false refl e), λ must. absurd (must_not r done s (told.0 refl) must))
must_unless r done s false told = (λ _. must_be r done s (λ end. both_ways false refl (told.1 end)), λ _. refl)

-- what was found at all cuts
pub found_all : (cuts : held.Cuts) (f : Findings) → SurveyedOf cuts.run.now cuts.count f → Decides f.must (Must (run_of cuts.run.now) (signs_of cuts.run.now)) → LookedAs (run_of cuts.run.now) (signs_of cuts.run.now) (amounts_of cuts.run.now) (Some f)
found_all cuts f all must =
    let run = cuts.run.now in
    let r = run_of run in
    let P : ℕ → Type 0 = λ n. SurveyedOf run n f in
    let seen = subst P cuts.counted all in (
      omega (arith, cuts.counted, cuts.few),
      record {
        moments = count_all r f.moments seen.moments;
        may = first_all r (signs_of run) f.first seen.first;
        must = must;
        least = least_all r (amounts_of run) (counts_of f.least.at) seen.least;
        most = most_all r (amounts_of run) (counts_of f.most.at) seen.most;
        least_sum = seen.least_sum;
        most_sum = seen.most_sum;
      },
    )

-- the same of signs and amounts that agree
module _ (r : Run) (s t : Says) (v w : Much) (signs : Agree r s t) (amounts : Agree r v w) where
  first_or_none : (o : Option Counts) → FirstOrNone r s o → FirstOrNone r t o
  first_or_none None h = λ may. h (may_agree r t s (agree_back r s t signs) may)
  first_or_none (Some c) h = first_agree r s t signs (counts_of c) h

  found_agree : (f : Findings) → Found r s v f → Found r t w f
  found_agree f h = record {
    moments = h.moments;
    may = first_or_none f.first h.may;
    must = (λ e. must_agree r s t signs (h.must.0 e), λ must. h.must.1 (must_agree r t s (agree_back r s t signs) must));
    least = least_agree r v w amounts (counts_of f.least.at) h.least;
    most = most_agree r v w amounts (counts_of f.most.at) h.most;
    least_sum = h.least_sum ∙ total_agree r v w amounts (counts_of f.least.at) h.least.moment;
    most_sum = h.most_sum ∙ total_agree r v w amounts (counts_of f.most.at) h.most.moment;
  }

  looked_agree : (x : Option Findings) → LookedAs r s v x → LookedAs r t w x
  looked_agree None h = h
  looked_agree (Some f) h = (h.0, found_agree f h.1)

-- of the run that records make
pub looked_at : (fs : List (List ℕ)) (m : Matched) (o : Ordered) (x : Option Findings) → InOrderAs fs m o → LookedAs (run_of o.run) (signs_of o.run) (amounts_of o.run) x → RepliedAs fs x
looked_at fs m o x h looked =
    let rs = records_of (vec_items m.records.list) in
    let r = run_of o.run in
    record {
      records = rs;
      run = r;
      recorded = recorded_run fs m o h;
      looked = looked_agree r (signs_of o.run) (sign_of rs) (amounts_of o.run) (amount_of rs) (signs_agree rs o.run h.run) (amounts_agree rs o.run h.run) x looked;
    }
