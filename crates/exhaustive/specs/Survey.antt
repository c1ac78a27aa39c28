-- What has been seen of the cuts so far.
-- Assumes nothing.
use Rattle.std.specs.Prelude.{◌≡◌, ℕ, ◌+◌, ◌<◌, ◌≤◌, ◌⊎◌, Some, None, Option}
use Rattle.runs.specs.declared.run.Run as code
use Rattle.runs.specs.Run.{Run}
use Rattle.runs.specs.Moment.{Cut, Moment}
use Rattle.runs.specs.declared.counts.Counts.{Counts}
use Rattle.runs.specs.Model.{run_of, signs_of, amounts_of, counts_of}
use Rattle.moments.specs.Signs.{Says, AllSay}
use Rattle.moments.specs.Amounts.{Much, total}
use Rattle.exhaustive.specs.declared.findings.Findings.{Findings}
use Rattle.exhaustive.specs.Counter.{rank_of}
use Rattle.exhaustive.specs.HowMany.{HowMany}

-- a moment among the first n cuts
abbrev pub Among : Run → ℕ → Cut → Type 0
Among r n c = Moment r c × (rank_of r c < n)

-- of those, the one of all yes with the lowest number, or that there is none
abbrev pub FirstAmong : Run → Says → ℕ → Option Counts → Type 0
FirstAmong r s n None = (d : Cut) → Among r n d → AllSay r s d → ⊥
FirstAmong r s n (Some c) = Among r n (counts_of c) × AllSay r s (counts_of c) × ((d : Cut) → Moment r d → AllSay r s d → rank_of r d < rank_of r (counts_of c) → ⊥)

-- the difference of two amounts is less at c than at d, or as much, and then c has no higher number
abbrev pub Ahead : Run → Much → Much → Cut → Cut → Type 0
Ahead r v w c d = (total r v c + total r w d < total r v d + total r w c) ⊎ ((total r v c + total r w d ≡ total r v d + total r w c) × (rank_of r c ≤ rank_of r d))

-- where it is least, of the moments among the first n cuts
pub record BestAmong (r : Run) (v w : Much) (n : ℕ) (c : Cut) : Type 0 where
  pub moment : Moment r c
  pub early : rank_of r c ≤ n
  pub ahead : (d : Cut) → Among r n d → Ahead r v w c d

abbrev pub none : Much
none i m = 0

-- what has been found at the first n cuts
pub record Surveyed (r : Run) (s : Says) (w : Much) (n : ℕ) (x : Findings) : Type 0 where
  pub moments : HowMany r (Among r n) x.moments
  pub few : x.moments ≤ n
  pub first : FirstAmong r s n x.first
  pub least : BestAmong r w none n (counts_of x.least.at)
  pub most : BestAmong r none w n (counts_of x.most.at)
  pub least_sum : x.least.sum ≡ total r w (counts_of x.least.at)
  pub most_sum : x.most.sum ≡ total r w (counts_of x.most.at)

-- the same of a run as the program has it
abbrev pub SurveyedOf : code.Run → ℕ → Findings → Type 0
SurveyedOf run = Surveyed (run_of run) (signs_of run) (amounts_of run)
