use Rattle.std.proofs.Common.{◌≡◌, ℕ, ◌+◌, ◌-◌, Bool, true, false, None, List, get_or, replicate, vec_items, Decides, sym, ap, ◌∙◌, subst, arith}
use Rattle.std.proofs.lemmas.Bool.{both_ways}
use Rattle.std.proofs.lemmas.List.{get_or_read}
use Rattle.std.proofs.lemmas.Option.{MatchOption-at_some, MatchOption-at_none}
use Rattle.runs.specs.declared.run.Run as code
use Rattle.runs.specs.Moment.{Moment}
use Rattle.runs.specs.Model.{run_of, signs_of, amounts_of, counts_of}
use Rattle.runs.proofs.Linked.{linked}
use Rattle.moments.specs.Amounts.{total}
use Rattle.moments.specs.Signs.{ComesTo}
use Rattle.exhaustive.specs.Counter.{rank_of}
use Rattle.exhaustive.specs.Marks.{Marked}
use Rattle.exhaustive.specs.Survey.{SurveyedOf}
use Rattle.exhaustive.proofs.Ranks.{rank_last, weight_some}
use Rattle.exhaustive.proofs.Turning.{cut_of, at_first, at_next}
use Rattle.exhaustive.proofs.Marking.{Sofar, unmarked, mark_set, mark_none}
use Rattle.exhaustive.proofs.Surveying.{none_seen, one_same}
use Rattle.exhaustive.proofs.Finding.{must_unless}
use Rattle.exhaustive.proofs.cut.Cuts.survey.Goals as goal

pub loop-cut-init : goal.loop-cut-init
loop-cut-init c =
    let self = c.args.self.now in
    let run = self.run.now in
    let first = c.first-first.result in
    let of = cut_of run first c.first-first.ensures.run in
    let T : code.Run → Type 0 = λ x. c.sum.result ≡ total (run_of x) (amounts_of x) (counts_of first.counts) in
    let seen = none_seen (run_of run) (linked run).range first.counts of.inside (signs_of run) (amounts_of run) true c.sum.result (omega (arith, of.numbered, c.first-first.ensures.number)) (subst T c.first-first.ensures.run c.sum.ensures) in
    let Q : ℕ → Type 0 = λ n. SurveyedOf run n (record { moments = 0; first = None; must = true; least = record { sum = c.sum.result; at = first.counts }; most = record { sum = c.sum.result; at = first.counts } }) in
    let marks = vec_items c.in_ok-marks.marks in
    let clear : marks ≡ replicate self.count false = c.in_ok-marks.ensures.items_if_clones_equal (λ y h. h) in
    let S : List Bool → Type 0 = λ xs. Sofar run xs 0 in
    rw c.into_iter-cut-iterator.ensures.into_iter_gives (record {
      marked = at_first run self.count (Sofar run marks) c.iter-cut-items.result.next c.iter-cut-items.ensures (subst S (sym clear) (unmarked run self.count));
      seen = at_first run self.count Q c.iter-cut-items.result.next c.iter-cut-items.ensures seen;
      long = omega (arith, c.in_ok-marks.ensures.len);
    })

pub comes-requires-clause-marked : goal.comes-requires-clause-marked
comes-requires-clause-marked c =
    let cut = c.in-Some.cut in
    let marks = vec_items c.loop-cut.marks in
    let now = MatchOption-at_some _ _ cut c.in-Some.ensures.steps.0 c.loop-cut.invariant.marked in
    let R : code.Run → Type 0 = λ x. Marked (run_of x) (signs_of x) marks cut.number in
    let S : List Bool → Type 0 = λ xs. Marked (run_of cut.run.now) (signs_of cut.run.now) xs cut.number in
    subst S (sym c.deref.ensures.value) (subst R (sym now.0) now.1.marked)

pub loop-cut-preserved-then-is_moment : goal.loop-cut-preserved-then-is_moment
loop-cut-preserved-then-is_moment c =
    let self = c.args.self.now in
    let run = self.run.now in
    let cut = c.in-Some.cut in
    let inv = c.loop-cut.invariant in
    let steps = c.in-Some.ensures.steps in
    let now = MatchOption-at_some _ _ cut steps.0 inv.seen in
    let Q : ℕ → Type 0 = λ n. SurveyedOf run n c.with-seen.result in
    let R : code.Run → Type 0 = λ x. SurveyedOf x (cut.number + 1) c.with-seen.result in
    record {
      marked = mark_set run self.count (vec_items c.loop-cut.marks) c.loop-cut.cut-iterator.next cut c.next.new.self.next c.comes.result self.counted (omega (arith, inv.long, c.loop-cut.marks.ok.0)) steps.0 steps.1 c.comes.ensures inv.marked;
      seen = at_next run self.count Q cut c.next.new.self.next self.counted now.0 steps.1 (subst R now.0 c.with-seen.ensures);
      long = inv.long;
    }

pub loop-cut-preserved : goal.loop-cut-preserved
loop-cut-preserved c =
    let self = c.args.self.now in
    let run = self.run.now in
    let cut = c.in-Some.cut in
    let inv = c.loop-cut.invariant in
    let steps = c.in-Some.ensures.steps in
    let never : Moment (run_of cut.run.now) (counts_of cut.counts) → ⊥ = λ m. both_ways c.is_moment.result c.if-is_moment.false (c.is_moment.ensures.decides.1 m) in
    let now = MatchOption-at_some _ _ cut steps.0 inv.seen in
    let Q : ℕ → Type 0 = λ n. SurveyedOf run n c.loop-cut.seen in
    let S : code.Run → Type 0 = λ x. SurveyedOf x cut.number c.loop-cut.seen in
    let R : code.Run → Type 0 = λ x. SurveyedOf x (cut.number + 1) c.loop-cut.seen in
    let same = one_same (run_of cut.run.now) (linked cut.run.now).range cut.counts cut.inside (signs_of cut.run.now) (amounts_of cut.run.now) cut.number cut.numbered c.loop-cut.seen never (subst S (sym now.0) now.1) in
    record {
      marked = mark_none run self.count (vec_items c.loop-cut.marks) c.loop-cut.cut-iterator.next cut c.next.new.self.next self.counted steps.0 steps.1 never inv.marked;
      seen = at_next run self.count Q cut c.next.new.self.next self.counted now.0 steps.1 (subst R now.0 same);
      long = inv.long;
    }

pub overflow_sub-self : goal.overflow_sub-self
overflow_sub-self c = let r = run_of c.args.self.now.run.now in omega (arith, c.args.self.now.counted, weight_some r.did r.count)

pub index-avoided-requires : goal.index-avoided-requires
index-avoided-requires c = let r = run_of c.args.self.now.run.now in omega (arith, c.args.self.now.counted, weight_some r.did r.count, c.loop-cut.invariant.long)

pub returns : goal.returns
returns c =
    let self = c.args.self.now in
    let run = self.run.now in
    let r = run_of run in
    let inv = c.loop-cut.invariant in
    let marks = vec_items c.loop-cut.marks in
    let marked = (MatchOption-at_none _ _ c.in-None.ensures.steps.0 inv.marked).marked in
    let seen = MatchOption-at_none _ _ c.in-None.ensures.steps.0 inv.seen in
    let last = rank_last r.did r.count in
    let at : rank_of r r.did ≡ self.count - 1 = omega (arith, last, self.counted) in
    let is : c.index-avoided.result.now ≡ get_or marks (self.count - 1) false = get_or_read marks (self.count - 1) c.index-avoided.result.now (omega (arith, last, self.counted, inv.long, c.loop-cut.marks.ok.0)) c.index-avoided.ensures false in
    let P : Bool → Type 0 = λ b. Decides b (ComesTo r (signs_of run) r.did) in
    let avoided = subst P (ap (λ (x : ℕ). get_or marks x false) at ∙ sym is) (marked r.did (λ i lt. omega arith) (omega (arith, last))) in (
      record { moments = seen.moments; few = seen.few; first = seen.first; least = seen.least; most = seen.most; least_sum = seen.least_sum; most_sum = seen.most_sum },
      must_unless r (linked run).range (signs_of run) c.index-avoided.result.now avoided,
    )
