-- What an answer says of a run in memory, before it is said of records.
-- Assumes nothing.
use Rattle.std.specs.Prelude.{◌≡◌, ◌*◌, ◌≤◌, length}
use Rattle.runs.specs.Run.{Run}
use Rattle.moments.specs.Signs.{Says, May, First}
use Rattle.moments.specs.Amounts.{doings}
use Rattle.answers.specs.Answer.{Answer, may_yes, may_no, must_yes, must_no, Counted}
use Rattle.answers.specs.Answer as said
use Rattle.asking.specs.Shown.{cut_of}
use Rattle.asking.specs.Steps.{MayTook}

abbrev pub MaySays : Run → Says → Answer → Type 0
MaySays r s (may_yes cut) = (length cut ≡ r.count) × First r s (cut_of cut)
MaySays r s may_no = May r s → ⊥
MaySays r s (must_yes ts) = ⊥
MaySays r s (must_no way) = ⊥
MaySays r s (said.Answer.least sum cut flows) = ⊥
MaySays r s (said.Answer.most sum cut flows) = ⊥

pub record MayDecided (r : Run) (s : Says) (a : Counted) : Type 0 where
  pub says : MaySays r s a.answer
  pub few : a.pairs ≤ r.count * doings r
  pub took : MayTook r s a
