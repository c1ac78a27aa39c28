use Rattle.std.proofs.Common.{◌≡◌, ℕ, ◌+◌, ◌-◌, subst, rules, tests, arith}
use Rattle.runs.specs.Model.{sending_of, counts_of}
use Rattle.order.specs.Steps.{Ready}
use Rattle.moments.proofs.Between.{all_below}
use Rattle.moments.proofs.moment.is_closed.Goals as goal

pub returns : goal.returns
returns c =
    let P : ℕ → Type 0 = λ m. Ready (sending_of c.args.run.now c.args.machine m) (counts_of c.args.cut) in
    let all = all_below c.all.result (λ k. P (k + 1)) c.all.ensures.runs (λ x t q k. search (rules, tests)) in (
      λ e m low high.
          let is : m - 1 + 1 ≡ m = omega arith in
          subst P is (all.0 e (m - 1) (omega arith) (omega arith)),
      λ each. all.1 (λ k low high. each (k + 1) (omega arith) (omega arith)),
    )
