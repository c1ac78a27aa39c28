-- Ways (linearizations, observations): how a run may have gone, moment by moment.
-- Assumes nothing.
use Rattle.std.specs.Prelude.{◌≡◌, ℕ, ◌+◌, ◌<◌, cond, ◌⊎◌, List, [], ◌∷◌, ◌==◌, ◌≢◌}
use mathlib.Core.List.{Memᴰ}
use Rattle.runs.specs.Run.{Run, Sound}
use Rattle.runs.specs.Moment.{Cut, Moment}
use Rattle.order.specs.Turns.{turns_of}
use Rattle.moments.specs.Cuts.{Alike, Below, nothing}

-- one doing more, of one machine
pub record Next (r : Run) (c d : Cut) : Type 0 where
  pub who : ℕ
  pub inside : who < r.count
  pub one : d who ≡ c who + 1
  pub others : (i : ℕ) → i < r.count → (i ≢ who) → d i ≡ c i

-- moment by moment from c to d
pub data Path (r : Run) (d : Cut) : Cut → List Cut → Type 0 where
  there : {c : Cut} → Moment r c → Alike r c d → Path r d c (c ∷ [])
  step : {c : Cut} {cs : List Cut} (e : Cut) → Moment r c → Next r c e → Path r d e cs → Path r d c (c ∷ cs)

-- from c until all is behind; a way of the run is one from nothing
abbrev pub Way : Run → Cut → List Cut → Type 0
Way r c cs = Path r r.did c cs

-- a path as the machine of each next doing
abbrev pub go_on : Cut → ℕ → Cut
go_on c who i = cond (i == who) (c i + 1) (c i)

abbrev pub cuts_along : Cut → List ℕ → List Cut
cuts_along c [] = c ∷ []
cuts_along c (who ∷ rest) = c ∷ cuts_along (go_on c who) rest

-- the machines lead from c to d: by moments, and each doing between the two has its turn once
pub record Leads (r : Run) (c d : Cut) (js : List ℕ) : Type 0 where
  pub path : Path r d c (cuts_along c js)
  pub once : (i : ℕ) → i < r.count → c i + turns_of js i ≡ d i

-- From each moment the run can go on by one doing toward any later one.
abbrev pub Toward : Type 0
Toward = (r : Run) → Sound r → (c d : Cut) → Moment r c → Moment r d → Below r c d → Alike r c d ⊎ ((e : Cut) × Moment r e × Next r c e × Below r e d)

-- So it can go on from every moment but the last, and every moment is on a way.
abbrev pub GoesOn : Type 0
GoesOn = (r : Run) → Sound r → (c : Cut) → Moment r c → Alike r c r.did ⊎ ((e : Cut) × Moment r e × Next r c e)

abbrev pub OnAWay : Type 0
OnAWay = (r : Run) → Sound r → (c : Cut) → Moment r c → (cs : List Cut) × Way r nothing cs × ((e : Cut) × Memᴰ e cs × Alike r e c)
