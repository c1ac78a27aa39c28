-- What looking at each cut of a run finds.
-- Assumes nothing.
use Rattle.std.specs.Prelude.{◌≡◌, ℕ, ◌<◌, ◌≤◌, List, Some, None, Decides, Option}
use Rattle.records.specs.Record.{Record, sign_of, amount_of}
use Rattle.order.specs.Asked.{RecordedRun}
use Rattle.runs.specs.Run.{Run}
use Rattle.runs.specs.Moment.{Moment}
use Rattle.runs.specs.Model.{counts_of}
use Rattle.moments.specs.Signs.{Says, FirstOrNone, Must, MayDecided, MustDecided}
use Rattle.moments.specs.Amounts.{Much, total, Least, Most, LeastFound, MostFound}
use Rattle.exhaustive.specs.declared.findings.Findings.{Findings}
use Rattle.exhaustive.specs.Counter.{cuts_of}
use Rattle.exhaustive.specs.HowMany.{HowMany, OneNumber}

pub record Found (r : Run) (s : Says) (w : Much) (f : Findings) : Type 0 where
  pub moments : HowMany r (Moment r) f.moments
  pub may : FirstOrNone r s f.first
  pub must : Decides f.must (Must r s)
  pub least : Least r w (counts_of f.least.at)
  pub most : Most r w (counts_of f.most.at)
  pub least_sum : f.least.sum ≡ total r w (counts_of f.least.at)
  pub most_sum : f.most.sum ≡ total r w (counts_of f.most.at)

-- a run of more than 1,000,000 cuts is not gone through
abbrev pub LookedAs : Run → Says → Much → Option Findings → Type 0
LookedAs r s w None = 1000000 < cuts_of r
LookedAs r s w (Some f) = (cuts_of r ≤ 1000000) × Found r s w f

-- this is what looking at each cut of the run that the files recorded finds
pub record RepliedAs (fs : List (List ℕ)) (x : Option Findings) : Type 0 where
  pub records : List Record
  pub run : Run
  pub recorded : RecordedRun fs records run
  pub looked : LookedAs run (sign_of records) (amount_of records) x

-- Of every run, however many cuts it has: its moments have one number, both questions of signs are decided, and both of amounts.
pub record Always : Type 0 where
  pub number : OneNumber
  pub may : MayDecided
  pub must : MustDecided
  pub least : LeastFound
  pub most : MostFound
