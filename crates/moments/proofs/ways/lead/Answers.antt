use Rattle.std.proofs.Common.{◌≡◌, ℕ, ◌<◌, ◌≤◌, List, [], ◌∷◌, ◌++◌, vec_items, sym, refl, ap, ◌∙◌, subst, inl, inr, append_assoc, append-nil, arith}
use Rattle.runs.specs.declared.run.Run as code
use Rattle.runs.specs.Model.{run_of, counts_of}
use Rattle.runs.specs.Moment.{Cut, Moment}
use Rattle.order.proofs.Sizes.{size, size_le, size_less}
use Rattle.moments.specs.Cuts.{Below}
use Rattle.moments.specs.Ways.{go_on}
use Rattle.moments.proofs.GoingOn.{on_cases, on_here, toward, goes_on, arrived}
use Rattle.moments.proofs.OnAWay.{on_a_way}
use Rattle.moments.proofs.Trails.{Trail, here, trail_on, trail_to, trail_leads, moment_same, moment_after}
use Rattle.moments.proofs.ways.lead.Goals as goal
use Rattle.moments.proofs.ways.lead.Goals.{In-Some}

pub loop-step-init : goal.loop-step-init
loop-step-init c =
    let from : counts_of c.at-moment.result.cut ≡ counts_of c.args.from = ap counts_of c.at-moment.ensures.cut in
    let P : Cut → Type 0 = λ x. Below (run_of c.args.run.now) x (counts_of c.args.to) in
    let Q : Cut → Type 0 = λ x. Trail (run_of c.args.run.now) x (counts_of c.args.from) [] in
    record {
      run = c.at-moment.ensures.run;
      below = subst P (sym from) c.requires.below;
      turns = [];
      added = sym (append-nil (vec_items c.args.turns.now));
      trail = subst Q (sym from) (here c.requires.from (λ i lt. refl));
    }

pub returns-in_err-push-clause-toward : goal.returns-in_err-push-clause-toward
returns-in_err-push-clause-toward c = toward

pub returns-in_err-push-clause-onward : goal.returns-in_err-push-clause-onward
returns-in_err-push-clause-onward c = goes_on

pub returns-in_err-push-clause-way : goal.returns-in_err-push-clause-way
returns-in_err-push-clause-way c = on_a_way

-- one doing more, and no further than is to be gone
after : (c : In-Some) → Below (run_of c.args.run.now) (go_on (counts_of c.loop-step.moment.cut) c.in-Some.step.machine) (counts_of c.args.to)
after c i lt =
    let to = counts_of c.args.to in
    elim (on_cases (counts_of c.loop-step.moment.cut) c.in-Some.step.machine i) [
      | inl (e, is) ↦ omega (arith, is, c.in-Some.ensures.ahead, ap to e, ap (counts_of c.loop-step.moment.cut) e)
      | inr (_, is) ↦ omega (arith, is, c.loop-step.invariant.below i lt)
    ]

pub loop-step-smaller : goal.loop-step-smaller
loop-step-smaller c =
    let n = c.args.run.now.count in
    let cut = counts_of c.loop-step.moment.cut in
    let j = c.in-Some.step.machine in
    let to = counts_of c.args.to in
    let told = c.in-Some.ensures in
    let more : size n cut < size n (go_on cut j) = size_less n cut (go_on cut j) j (λ i _. grind (arith, on_cases cut j i)) (omega (arith, ap (λ (r : code.Run). r.count) c.loop-step.invariant.run, told.inside)) (omega (arith, on_here cut j)) in
    let most : size n (go_on cut j) ≤ size n to = size_le n (go_on cut j) to (after (goal.at.loop-step-smaller c).In-Some) in
    omega (arith, more, most, ap (size n) told.after.cut)

pub loop-step-preserved : goal.loop-step-preserved
loop-step-preserved c =
    let run = c.args.run.now in
    let led = c.loop-step.invariant in
    let step = c.in-Some.ensures in
    let j = c.in-Some.step.machine in
    let before = vec_items c.args.turns.now in
    let turns : List ℕ = led.turns ++ j ∷ [] in
    let P : Cut → Type 0 = λ x. Below (run_of run) x (counts_of c.args.to) in
    let Q : Cut → Type 0 = λ x. Trail (run_of run) x (counts_of c.args.from) turns in
    let inside : j < run.count = omega (arith, ap (λ (r : code.Run). r.count) led.run, step.inside) in
    record {
      run = step.after.run ∙ led.run;
      below = subst P (sym step.after.cut) (after (goal.at.loop-step-preserved c).In-Some);
      turns = turns;
      added = c.in_ok-push.ensures.items ∙ ap (λ (xs : List ℕ). xs ++ j ∷ []) led.added ∙ append_assoc before led.turns (j ∷ []);
      trail = subst Q (sym step.after.cut) (trail_on c.requires.sound.letters led.trail j inside (moment_after led.run step.after));
    }

pub returns : goal.returns
returns c =
    let run = c.args.run.now in
    let r = run_of run in
    let led = c.loop-step.invariant in
    let moment = c.loop-step.moment in
    let cut = counts_of moment.cut in
    let to = counts_of c.args.to in
    let Q : code.Run → Type 0 = λ x. (k : ℕ) → k < x.count → cut k < to k → Moment (run_of x) (go_on cut k) → ⊥ in
    record {
      leads = (led.turns, led.added, trail_leads (trail_to led.trail to (arrived r c.requires.sound cut to (moment_same led.run moment.moment) c.requires.to led.below (subst Q led.run c.in_default.ensures))));
      toward = toward;
      onward = goes_on;
      way = on_a_way;
    }
