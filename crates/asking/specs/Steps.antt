-- How many steps an answer took: as many as its search, told as a relation, takes.
-- Assumes nothing.
use Rattle.std.specs.Prelude.{◌≡◌, ℕ, ◌*◌, ◌≤◌, List}
use Rattle.records.specs.Record.{Record, sign_of}
use Rattle.runs.specs.Run.{Run}
use Rattle.runs.specs.Moment.{Cut}
use Rattle.order.specs.Vectors.{Vectors, VectorsOf}
use Rattle.order.specs.Asked.{RecordedRun}
use Rattle.moments.specs.Cuts.{Alike}
use Rattle.moments.specs.Signs.{Says}
use Rattle.may_must.specs.MaySearch.{LowestNo, Searched}
use Rattle.answers.specs.Answer.{Answer, may_yes, may_no, must_yes, must_no, Counted}
use Rattle.answers.specs.Answer as said
use Rattle.asking.specs.Shown.{cut_of}

-- the search for the first moment ends at the cut that is told, or where the machine that is to go on has no further doing
abbrev pub EndsWith : Run → Says → Cut → Answer → Type 0
EndsWith r s c (may_yes cut) = Alike r c (cut_of cut)
EndsWith r s c may_no = (i : ℕ) × LowestNo r s c i × (r.did i ≤ c i)
EndsWith r s c (must_yes ts) = ⊥
EndsWith r s c (must_no way) = ⊥
EndsWith r s c (said.Answer.least sum cut flows) = ⊥
EndsWith r s c (said.Answer.most sum cut flows) = ⊥

-- one pair for each machine with each join that the search made until then, and no way of flow
pub record MayTook (r : Run) (s : Says) (a : Counted) : Type 0 where
  pub vectors : Vectors
  pub told : VectorsOf r vectors
  pub joins : ℕ
  pub cut : Cut
  pub searched : Searched r s vectors joins cut
  pub ends : EndsWith r s cut a.answer
  pub pairs : a.pairs ≡ r.count * joins
  pub ways : a.ways ≡ 0

-- the counts that come with an answer are what was done
abbrev pub StepsTaken : List (List ℕ) → Counted → Type 0
StepsTaken files a = (rs : List Record) × (r : Run) × RecordedRun files rs r × MayTook r (sign_of rs) a
