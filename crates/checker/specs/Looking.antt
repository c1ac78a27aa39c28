-- The same of an answer to may and a run in memory, before it is said of records.
-- Assumes nothing.
use Rattle.std.specs.Prelude.{◌≡◌, ℕ, ◌^◌, ◌<◌, List}
use Rattle.runs.specs.Run.{Run}
use Rattle.moments.specs.Signs.{Says, May, First}
use Rattle.answers.specs.Answer.{Answer, may_yes, may_no, must_yes, must_no, Counted}
use Rattle.answers.specs.Answer as said
use Rattle.answers.specs.Bytes.{counted_bytes}
use Rattle.asking.specs.Shown.{cut_of}
use Rattle.checker.specs.declared.verdict.Verdict.{Verdict}
use Rattle.checker.specs.declared.verdict.Verdict.TheVariants as verdict
use Rattle.checker.specs.Verdict.{CutFits}

abbrev pub MayFits : Run → Answer → Type 0
MayFits r (may_yes cut) = CutFits r cut
MayFits r may_no = Unit {0}
MayFits r (must_yes ts) = ⊥
MayFits r (must_no way) = ⊥
MayFits r (said.Answer.least sum cut flows) = ⊥
MayFits r (said.Answer.most sum cut flows) = ⊥

abbrev pub MayHolds : Run → Says → Answer → Type 0
MayHolds r s (may_yes cut) = First r s (cut_of cut)
MayHolds r s may_no = May r s → ⊥
MayHolds r s (must_yes ts) = ⊥
MayHolds r s (must_no way) = ⊥
MayHolds r s (said.Answer.least sum cut flows) = ⊥
MayHolds r s (said.Answer.most sum cut flows) = ⊥

pub record IsMay (r : Run) (bytes : List ℕ) (a : Counted) : Type 0 where
  pub written : bytes ≡ counted_bytes a
  pub form : MayFits r a.answer
  pub pairs : a.pairs < 2 ^ 64
  pub ways : a.ways < 2 ^ 64

abbrev pub MayJudged : Run → Says → List ℕ → Verdict → Type 0
MayJudged r s bytes verdict.Shown = (a : Counted) × IsMay r bytes a × MayHolds r s a.answer
MayJudged r s bytes (verdict.Refused why) = ⊥
MayJudged r s bytes verdict.NotItsForm = (a : Counted) → IsMay r bytes a → ⊥
MayJudged r s bytes verdict.NotShown = (a : Counted) × IsMay r bytes a × (MayHolds r s a.answer → ⊥)
