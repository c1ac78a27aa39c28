-- How far an ordering of the doings has come.
-- Assumes nothing.
use Rattle.std.specs.Prelude.{◌≡◌, ℕ, ◌+◌, ◌*◌, ◌<◌, ◌≤◌, max, ◌⊎◌, List, length, Some, None, Option, ◌≢◌}
use Rattle.records.specs.declared.place.Place.{Place}
use Rattle.runs.specs.Run.{Run, Before}
use Rattle.runs.specs.Moment.{Moment, Cut}
use Rattle.runs.specs.declared.run.Run as code
use Rattle.runs.specs.declared.counts.Counts.{Counts}
use Rattle.runs.specs.Model.{counts_of, sending_of, letters_in, run_of}
use Rattle.order.specs.declared.progress.Progress.{Progress}
use Rattle.order.specs.Rows.{vectors_in}
use Rattle.order.specs.Vectors.{Vectors}
use Rattle.order.specs.Turns.{turns_of, InTurn}

-- one doing comes before another, or is it
abbrev pub UpTo : Run → (i k j m : ℕ) → Type 0
UpTo r i k j m = ((i ≡ j) × (k ≡ m)) ⊎ Before r i k j m

-- what a doing gets has been sent
abbrev pub Ready : Option Place → Cut → Type 0
Ready None c = Unit {0}
Ready (Some p) c = p.doing ≤ c p.machine

-- what comes with it
abbrev pub told : Vectors → Option Place → Cut
told v None i = 0
told v (Some p) i = v p.machine p.doing i

-- w is the row before that of doing m of j, with what comes with it and the doing itself
abbrev pub Follows : ℕ → Vectors → Option Place → (j n m : ℕ) → Cut → Type 0
Follows count v sending j n m w = (w j ≡ m) × ((k : ℕ) → k < count → (k ≢ j) → w k ≡ max (v j n k) (told v sending k))

-- w is what comes before doing m of j, with it
pub record Row (r : Run) (j m : ℕ) (w : Cut) : Type 0 where
  pub own : m ≤ w j
  pub moment : Moment r w
  pub reached : (i : ℕ) → i < r.count → 1 ≤ w i → UpTo r i (w i) j m

-- the doings behind c are ordered
pub record Done (r : Run) (v : Vectors) (c : Cut) : Type 0 where
  pub moment : Moment r c
  pub rows : (j m : ℕ) → j < r.count → m ≤ c j → Row r j m (v j m)
  pub no_ring : (j m : ℕ) → j < r.count → m ≤ c j → Before r j m j m → ⊥

-- a machine can't go on: its next doing, if it has one, gets what has not been sent
abbrev pub Waits : Run → (ℕ → ℕ → Option Place) → Cut → ℕ → Type 0
Waits r sending c j = c j < r.did j → Ready (sending j (c j + 1)) c → ⊥

-- the pairs that are joined for one doing, and for all behind a cut: one for each machine with each getting
abbrev pub joined_for : ℕ → Option Place → ℕ
joined_for count None = 0
joined_for count (Some p) = count

abbrev pub joined_behind : code.Run → Cut → ℕ
joined_behind r c = r.count * length (letters_in (sending_of r) c r.count)

-- one doing more of machine j is ordered
pub record Stepped (r : code.Run) (rows : List Counts) (cut : Counts) (j : ℕ) (p : Progress) : Type 0 where
  pub done : Done (run_of r) (vectors_in r rows) (counts_of p.cut)
  pub one : counts_of p.cut j ≡ counts_of cut j + 1
  pub others : (k : ℕ) → (k ≢ j) → counts_of p.cut k ≡ counts_of cut k
  pub joined : p.pairs ≡ joined_behind r (counts_of p.cut)

-- the turns so far led to the cut
abbrev pub LedTo : Run → List ℕ → Cut → Type 0
LedTo r js c = InTurn r js × ((i : ℕ) → turns_of js i ≡ c i)

-- as many doings as can be are ordered
pub record Filled (r : code.Run) (rows : List Counts) (js : List ℕ) (p : Progress) : Type 0 where
  pub done : Done (run_of r) (vectors_in r rows) (counts_of p.cut)
  pub joined : p.pairs ≡ joined_behind r (counts_of p.cut)
  pub turns : LedTo (run_of r) js (counts_of p.cut)
  pub waits : (j : ℕ) → j < r.count → Waits (run_of r) (sending_of r) (counts_of p.cut) j
