-- What is asked of signs: whether there may have been a moment of all yes (Possibly), and whether there must have been one (Definitely).
-- Assumes nothing.
use Rattle.std.specs.Prelude.{◌≡◌, ℕ, ◌<◌, Bool, true, ◌⊎◌, List, Some, None, Option}
use mathlib.Core.List.{Memᴰ}
use Rattle.runs.specs.declared.counts.Counts.{Counts}
use Rattle.runs.specs.Model.{counts_of}
use Rattle.runs.specs.Run.{Run, Done}
use Rattle.runs.specs.Moment.{Cut, Moment}
use Rattle.moments.specs.Cuts.{Alike, Below, nothing}
use Rattle.moments.specs.Ways.{Next, Way}

-- says i m: machine i's sign after m doings
abbrev pub Says : Type 0
Says = ℕ → ℕ → Bool

abbrev pub AllSay : Run → Says → Cut → Type 0
AllSay r s c = (i : ℕ) → i < r.count → s i (c i) ≡ true

abbrev pub May : Run → Says → Type 0
May r s = (c : Cut) × Moment r c × AllSay r s c

-- the first such moment: each machine has no more doings behind it than at any other
abbrev pub First : Run → Says → Cut → Type 0
First r s c = Moment r c × AllSay r s c × ((d : Cut) → Moment r d → AllSay r s d → Below r c d)

-- the first one, or that there is none
abbrev pub FirstOrNone : Run → Says → Option Counts → Type 0
FirstOrNone r s None = May r s → ⊥
FirstOrNone r s (Some c) = First r s (counts_of c)

-- every way has a moment at which all say yes
abbrev pub Must : Run → Says → Type 0
Must r s = (cs : List Cut) → Way r nothing cs → (c : Cut) × Memᴰ c cs × AllSay r s c

-- a way that has none
abbrev pub Avoids : Run → Says → List Cut → Type 0
Avoids r s cs = Way r nothing cs × ((c : Cut) → Memᴰ c cs → AllSay r s c → ⊥)

-- the run can have come to this moment, and at none so far did all say yes
pub data ComesTo (r : Run) (s : Says) : Cut → Type 0 where
  begins : {c : Cut} → Alike r c nothing → (AllSay r s c → ⊥) → ComesTo r s c
  goes : {c : Cut} (d : Cut) → ComesTo r s c → Moment r d → Next r c d → (AllSay r s d → ⊥) → ComesTo r s d

-- Of every run both are decided, with what shows it.
abbrev pub MayDecided : Type 0
MayDecided = (r : Run) → Done r → (s : Says) → ((c : Cut) × First r s c) ⊎ (May r s → ⊥)

abbrev pub MustDecided : Type 0
MustDecided = (r : Run) → Done r → (s : Says) → Must r s ⊎ ((cs : List Cut) × Avoids r s cs)
