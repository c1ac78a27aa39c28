-- How a run is laid out from records, and its letters' sendings written in.
-- Assumes nothing.
use Rattle.std.specs.Prelude.{◌≡◌, ℕ, ◌<◌, ◌≤◌, List, [], ◌∷◌, ◌++◌, map, length, get_or, take, Some, None, slice_index, slice_index_or, slice_set}
use Rattle.records.specs.declared.doing.Doing.{Doing}
use Rattle.records.specs.Record.{Record, did_of}
use Rattle.letters.specs.declared.letter.Letter.{Letter}
use Rattle.runs.specs.declared.counts.Counts.{Counts}
use Rattle.runs.specs.declared.state.State.{State}
use Rattle.runs.specs.Shape.{still, index}

-- a machine's states, one before its first doing and one after each; and all machines' in a row
abbrev pub state_after : Doing → State
state_after d = record { sign = d.sign; amount = d.amount; sending = None }

abbrev pub states_after : List Doing → List State
states_after ds = map state_after ds

abbrev pub states_of : Record → List State
states_of r = record { sign = r.sign; amount = r.amount; sending = None } ∷ states_after r.doings

abbrev pub all_states : List Record → List State
all_states [] = []
all_states (r ∷ rs) = states_of r ++ all_states rs

-- the first n machines are laid out
pub record Laid (rs : List Record) (n : ℕ) (did : Counts) (starts : Counts) (states : List State) : Type 0 where
  pub doings : (k : ℕ) → k < n → slice_index did.of k ≡ did_of rs k
  pub none : (k : ℕ) → n ≤ k → slice_index did.of k ≡ 0
  pub begins : (k : ℕ) → k < n → slice_index starts.of k ≡ length (all_states (take k rs))
  pub items : states ≡ all_states (take n rs)

-- where the state after a letter's getting stands
abbrev pub got_index : Counts → Letter → ℕ
got_index starts l = index starts l.to l.got

abbrev pub Within : ℕ → Counts → List Letter → Type 0
Within size starts ls = (k : ℕ) → k < length ls → ((get_or ls k (record { from = 0; sent = 0; to = 0; got = 0 })).to < 40) × (got_index starts (slice_index_or ls k (record { from = 0; sent = 0; to = 0; got = 0 })) < size)

-- the state with the place from which its letter came
abbrev pub heard : Letter → State → State
heard l s = record { sign = s.sign; amount = s.amount; sending = Some (record { machine = l.from; doing = l.sent }) }

abbrev pub linked : Counts → List Letter → List State → List State
linked starts [] ss = ss
linked starts (l ∷ ls) ss = linked starts ls (slice_set ss (got_index starts l) (heard l (slice_index_or ss (got_index starts l) still)))
