-- Cuts beside each other, and the laws of moments.
-- Assumes nothing.
use Rattle.std.specs.Prelude.{◌≡◌, ℕ, ◌<◌, ◌≤◌, min, max}
use Rattle.runs.specs.Run.{Run, Before}
use Rattle.runs.specs.Moment.{Cut, Moment}

-- the same of each machine; of no machine more
abbrev pub Alike : Run → Cut → Cut → Type 0
Alike r c d = (i : ℕ) → i < r.count → c i ≡ d i

abbrev pub Below : Run → Cut → Cut → Type 0
Below r c d = (i : ℕ) → i < r.count → c i ≤ d i

-- nothing is behind it
abbrev pub nothing : Cut
nothing i = 0

-- of each machine what fewer doings are behind, and what more are (meet and join)
abbrev pub lower : Cut → Cut → Cut
lower c d i = min (c i) (d i)

abbrev pub upper : Cut → Cut → Cut
upper c d i = max (c i) (d i)

-- The lower and the upper of two moments are moments: they are a lattice.
abbrev pub Lattice : Type 0
Lattice = (r : Run) (c d : Cut) → Moment r c → Moment r d → Moment r (lower c d) × Moment r (upper c d)

-- all that comes before what is behind a cut is behind it
abbrev pub Closed : Run → Cut → Type 0
Closed r c = (i m j n : ℕ) → Before r i m j n → n ≤ c j → m ≤ c i

-- A cut of doings that there are is a moment exactly if it is closed so.
abbrev pub ByBefore : Type 0
ByBefore = (r : Run) (c : Cut) → Below r c r.did → (Moment r c → Closed r c) × (Closed r c → Moment r c)
