use Rattle.std.proofs.Common.{◌<◌, ◌≤◌, sym, ap, arith}
use Rattle.runs.specs.Model.{run_of, signs_of, counts_of}
use Rattle.order.specs.Ordering.{vectors_of}
use Rattle.order.proofs.Sizes.{size}
use Rattle.moments.proofs.Lowest.{rows_lowest}
use Rattle.order.specs.declared.progress.Progress.{Progress}
use Rattle.may_must.proofs.Searching.{SoFar, begun, on, few_pairs, room}
use Rattle.runs.proofs.Linked.{linked}
use Rattle.may_must.proofs.may.first_moment.Goals as goal
use Rattle.may_must.proofs.may.first_moment.Goals.{After-join-search}

pub anew-init : goal.anew-init
anew-init c = begun _ _ _ _ (linked c.args.ordered.now.run).range c.none.ensures

pub returns-in_default-clause-few : goal.returns-in_default-clause-few
returns-in_default-clause-few c = few_pairs c.loop-machine.invariant.so_far

pub join-search-requires-clause-room : goal.join-search-requires-clause-room
join-search-requires-clause-room c = let run = c.args.ordered.now.run in room c.loop-machine.invariant.so_far run.most run.few

-- the machine has gone on
gone : (c : After-join-search) →
    let run = c.args.ordered.now.run in
    let n = run.count in
    let cut = counts_of c.join-search.result.cut in
    SoFar (run_of run) (signs_of run) (vectors_of c.args.ordered.now) cut c.join-search.result.pairs × (size n (counts_of c.loop-machine.search.cut) < size n cut) × (size n cut ≤ size n (counts_of run.did))
gone c =
    let told = c.in-Some.ensures in
    on (linked c.args.ordered.now.run).range c.loop-machine.invariant.so_far c.loop-machine.machine c.in-Some.next (rows_lowest c.args.ordered.now c.loop-machine.machine c.in-Some.next c.loop-machine-test.true (omega (arith, told.0)) told.1) c.loop-machine-test.true c.loop-machine.invariant.below (sym c.if-sign.ensures) told.0 told.1 (counts_of c.join-search.result.cut) c.join-search.ensures.cut c.join-search.result.pairs c.join-search.ensures.pairs

pub anew-smaller : goal.anew-smaller
anew-smaller c =
    let n = c.args.ordered.now.run.count in
    omega (arith, ap (λ (s : Progress). size n (counts_of s.cut)) c.loop-machine.invariant.same, (gone c).1, (gone c).2)

pub anew-preserved : goal.anew-preserved
anew-preserved c = (gone c).0

pub returns-in-anew-clause-few : goal.returns-in-anew-clause-few
returns-in-anew-clause-few c = few_pairs c.loop-machine.invariant.so_far
