use Rattle.std.proofs.lemmas.Bool.{both_ways, not-true, not_from_false, false_from_ne_true}
use Rattle.exhaustive.proofs.Marking.{does_come, has_come}
use Rattle.exhaustive.proofs.cut.Cut.comes.Goals as goal

pub returns-then-came : goal.returns-then-came
returns-then-came c =
    let cut = c.args.self.now in
    let marks = c.args.marks.now in
    let all = c.all_yes.result in (
      λ off. does_come cut marks c.requires.marked (c.came.ensures.0 c.if-came.true) (λ yes. both_ways all (not-true all off) (c.all_yes.ensures.1 yes)) c.requires.moment,
      λ comes. not_from_false all (false_from_ne_true all (λ yes. (has_come cut marks c.requires.marked comes).1 (c.all_yes.ensures.0 yes))),
    )

pub returns-else-came : goal.returns-else-came
returns-else-came c = (
  λ came. absurd (both_ways c.came.result c.if-came.false came),
  λ comes. c.came.ensures.1 (has_come c.args.self.now c.args.marks.now c.requires.marked comes).0,
)
