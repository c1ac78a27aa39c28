use Rattle.std.proofs.Common.{◌≡◌, ℕ, ◌+◌, true, false, List, drop, sym, refl, ap, ◌∙◌, subst, arith}
use mathlib.Core.Path.{fun_ext}
use Rattle.std.proofs.lemmas.List.{drop_all}
use Rattle.std.proofs.lemmas.Bool.{both_ways}
use Rattle.runs.specs.declared.run.Run as code
use Rattle.runs.specs.Model.{run_of, counts_of}
use Rattle.runs.specs.Moment.{Moment}
use Rattle.runs.proofs.Linked.{linked}
use Rattle.moments.specs.Cuts.{Alike, nothing}
use Rattle.moments.proofs.Laws.{moment_first}
use Rattle.moments.proofs.Trails.{Left, all_left, turn_left, goes, one_left, none_left, moment_same, moment_after}
use Rattle.moments.proofs.ways.is_way.Goals as goal

pub at-moment-requires : goal.at-moment-requires
at-moment-requires c = subst (Moment (run_of c.args.run.now)) (sym (fun_ext (λ k. c.none.ensures k))) (moment_first (linked c.args.run.now).range)

pub loop-turn-init : goal.loop-turn-init
loop-turn-init c =
    let run = c.args.run.now in
    let js = c.args.turns.now in
    let none : counts_of c.at-moment.result.cut ≡ nothing = ap counts_of c.at-moment.ensures.cut ∙ fun_ext (λ k. c.none.ensures k) in
    record { run = c.at-moment.ensures.run; left = subst (Left (run_of run) js js) (sym none) (all_left (linked run).range js) }

-- not a way, since the turn can't be
never : {W : Type 0} → (W → ⊥) → (false ≡ true → W) × (W → false ≡ true)
never none = (λ e. absurd (both_ways false refl e), λ way. absurd (none way))

pub returns-then-run-machine : goal.returns-then-run-machine
returns-then-run-machine c = never (λ way. omega (arith, c.if-run-machine.true, (goes (turn_left _ c.loop-turn-test.true c.loop-turn.invariant.left) way).0))

pub returns-in_default : goal.returns-in_default
returns-in_default c =
    let inv = c.loop-turn.invariant in
    never (λ way. c.in_default.ensures (moment_same (sym inv.run) (goes (turn_left _ c.loop-turn-test.true inv.left) way).1))

pub loop-turn-preserved : goal.loop-turn-preserved
loop-turn-preserved c =
    let run = c.args.run.now in
    let js = c.args.turns.now in
    let inv = c.loop-turn.invariant in
    let told = c.in-Some.ensures in
    record {
      run = told.run ∙ inv.run;
      left = subst (Left (run_of run) js (drop (c.loop-turn.turn-index + 1) js)) (sym told.cut)
          (one_left (turn_left _ c.loop-turn-test.true inv.left) (omega (arith, c.if-run-machine.false)) (moment_after inv.run told));
    }

pub returns : goal.returns
returns c =
    let js = c.args.turns.now in
    let inv = c.loop-turn.invariant in
    let cut = counts_of c.loop-turn.moment.cut in
    let P : List ℕ → Type 0 = λ rest. Left (run_of c.args.run.now) js rest cut in
    let Q : code.Run → Type 0 = λ r. Alike (run_of r) cut (counts_of r.did) in
    let none = none_left (subst P (drop_all c.loop-turn.turn-index js c.loop-turn-test.false) inv.left) in
    (λ end. none.1 (subst Q inv.run (c.is_end.ensures.0 end)), λ way. c.is_end.ensures.1 (subst Q (sym inv.run) (none.0 way)))
