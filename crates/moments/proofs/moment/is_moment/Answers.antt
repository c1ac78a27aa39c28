use Rattle.std.proofs.Common.{ℕ, ◌≤◌, rules, tests, arith}
use Rattle.runs.specs.Model.{sending_of, counts_of}
use Rattle.runs.proofs.Linked.{linked}
use Rattle.order.specs.Steps.{Ready}
use Rattle.order.proofs.Behind.{moment_ready, ready_moment}
use Rattle.moments.proofs.Laws.{by_before}
use Rattle.moments.proofs.Between.{all_below}
use Rattle.moments.proofs.moment.is_moment.Goals as goal

pub returns-clause-decides : goal.returns-clause-decides
returns-clause-decides c =
    let run = c.args.run.now in
    let cut = counts_of c.args.cut in
    let P : ℕ → Type 0 = λ i. (cut i ≤ counts_of run.did i) × ((m : ℕ) → 1 ≤ m → m ≤ cut i → Ready (sending_of run i m) cut) in
    let all = all_below c.all.result P c.all.ensures.runs (λ x t q k. search (rules, tests)) in (
      λ e. ready_moment (linked run) (λ i lt. (all.0 e i (omega arith) lt).0) (λ i m lt. (all.0 e i (omega arith) lt).1 m),
      λ moment. all.1 (λ i low lt. (moment.inside i lt, λ m one le. moment_ready (linked run) moment i m lt one le)),
    )

pub returns-clause-before : goal.returns-clause-before
returns-clause-before c = by_before
