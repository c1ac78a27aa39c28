use Rattle.std.proofs.Common.{ℕ, ◌<◌, sym, subst, arith}
use Rattle.std.proofs.lemmas.Bool.{both_ways}
use Rattle.runs.specs.Moment.{Moment}
use Rattle.runs.specs.Model.{run_of, sending_of, counts_of}
use Rattle.runs.proofs.Linked.{linked}
use Rattle.runs.proofs.Places.{set_here, set_rest}
use Rattle.order.specs.Steps.{Ready}
use Rattle.order.proofs.Behind.{moment_ready, moment_next}
use Rattle.moments.proofs.Trails.{with_on}
use Rattle.moments.proofs.reached.Reached.go_on.Goals as goal

pub invariant_of-result : goal.invariant_of-result
invariant_of-result c =
    let self = c.args.self.now in
    let run = self.run.now in
    let j = c.args.machine in
    let m = c.in_ok-doing.doing in
    let next = c.with-cut.result in
    let told = c.in_ok-doing.ensures in
    let few : j < 40 = omega (arith, c.requires, run.most) in
    let here = set_here self.cut next j m few c.with-cut.ensures in
    let P : ℕ → Type 0 = λ n. Ready (sending_of run j n) (counts_of next) in
    record {
      moment = moment_next (linked run) self.moment j (counts_of next) (omega (arith, here, told.0)) (set_rest self.cut next j m few c.with-cut.ensures) (omega (arith, here, told.1)) (subst P (sym here) (c.is_ready.ensures.0 c.if-is_ready.true));
    }

pub returns-else-is_ready : goal.returns-else-is_ready
returns-else-is_ready c moment =
    let self = c.args.self.now in
    let run = self.run.now in
    let j = c.args.machine in
    let m = c.in_ok-doing.doing in
    let next = c.with-cut.result in
    let told = c.in_ok-doing.ensures in
    let few : j < 40 = omega (arith, c.requires, run.most) in
    let here = set_here self.cut next j m few c.with-cut.ensures in
    let is = with_on self.cut next j m few c.with-cut.ensures told.0 in
    both_ways c.is_ready.result c.if-is_ready.false (c.is_ready.ensures.1 (moment_ready (linked run) (subst (Moment (run_of run)) (sym is) moment) j m c.requires (omega (arith, told.0)) (omega (arith, here))))
