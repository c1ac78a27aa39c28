-- What a run and its counts in memory mean.
-- Assumes nothing.
use Rattle.std.specs.Prelude.{◌≡◌, ℕ, zero, suc, ◌<◌, ◌≤◌, Bool, List, [], ◌∷◌, ◌++◌, length, Some, None, vec_items, Option, slice_index, slice_index_or}
use Rattle.records.specs.declared.place.Place.{Place}
use Rattle.records.specs.Record.{Record, did_of, sign_of, amount_of}
use Rattle.letters.specs.declared.letter.Letter.{Letter}
use Rattle.runs.specs.declared.counts.Counts.{Counts}
use Rattle.runs.specs.declared.state.State.{State}
use Rattle.runs.specs.declared.run.Run as code
use Rattle.runs.specs.Run.{Run, Makes}
use Rattle.runs.specs.Shape.{still, index}

abbrev pub counts_of : Counts → ℕ → ℕ
counts_of c i = slice_index c.of i

-- machine j after m doings
abbrev pub state_of : code.Run → ℕ → ℕ → State
state_of r j m = slice_index_or (vec_items r.states) (index r.starts j m) still

-- the letter of a getting whose sending is known
abbrev pub letter_to : ℕ → ℕ → Option Place → List Letter
letter_to j m None = []
letter_to j m (Some p) = record { from = p.machine; sent = p.doing; to = j; got = m } ∷ []

-- those that machine j got in its first so many doings, and those that the first so many machines got
abbrev pub letters_by : (ℕ → ℕ → Option Place) → ℕ → ℕ → List Letter
letters_by sending j zero = []
letters_by sending j (suc m) = letter_to j (suc m) (sending j (suc m)) ++ letters_by sending j m

abbrev pub letters_in : (ℕ → ℕ → Option Place) → (ℕ → ℕ) → ℕ → List Letter
letters_in sending did zero = []
letters_in sending did (suc n) = letters_by sending n (did n) ++ letters_in sending did n

abbrev pub sending_of : code.Run → ℕ → ℕ → Option Place
sending_of r j m = (state_of r j m).sending

abbrev pub signs_of : code.Run → ℕ → ℕ → Bool
signs_of r j m = (state_of r j m).sign

abbrev pub amounts_of : code.Run → ℕ → ℕ → ℕ
amounts_of r j m = (state_of r j m).amount

-- the run that a value of the program stands for
abbrev pub run_of : code.Run → Run
run_of r = record { count = r.count; did = counts_of r.did; letters = letters_in (sending_of r) (counts_of r.did) r.count }

-- the records make this run, and its signs and amounts are theirs
pub record RunOf (rs : List Record) (r : code.Run) : Type 0 where
  pub makes : Makes rs (run_of r)
  pub signs : (i m : ℕ) → i < length rs → m ≤ did_of rs i → (state_of r i m).sign ≡ sign_of rs i m
  pub amounts : (i m : ℕ) → i < length rs → m ≤ did_of rs i → (state_of r i m).amount ≡ amount_of rs i m
