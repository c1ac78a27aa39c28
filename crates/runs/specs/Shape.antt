-- How a run lies in memory.
-- Assumes nothing.
use Rattle.std.specs.Prelude.{◌≡◌, ℕ, ◌+◌, ◌<◌, ◌≤◌, Bool, true, false, ◌&&◌, List, Some, None, Option, nat_le, nat_lt, slice_index, slice_index_or}
use Rattle.records.specs.declared.place.Place.{Place}
use Rattle.runs.specs.declared.counts.Counts.{Counts}
use Rattle.runs.specs.declared.state.State.{State}

abbrev pub still : State
still = record { sign = false; amount = 0; sending = None }

-- where the state of machine j after m doings stands
abbrev pub index : Counts → ℕ → ℕ → ℕ
index starts j m = slice_index starts.of j + m

-- no machine has more than 500 doings
abbrev pub Few : ℕ → Counts → Type 0
Few count did = (i : ℕ) → i < count → slice_index did.of i ≤ 500

-- each machine's states are there
abbrev pub Inside : ℕ → Counts → Counts → ℕ → Type 0
Inside count did starts states = (i : ℕ) → i < count → slice_index starts.of i + slice_index did.of i < states

-- and none is another's
abbrev pub Apart : ℕ → Counts → Counts → Type 0
Apart count did starts = (i j : ℕ) → i < j → j < count → slice_index starts.of i + slice_index did.of i < slice_index starts.of j

-- what is got was sent as a doing of one of the machines
abbrev pub sent_within : ℕ → Counts → Option Place → Bool
sent_within count did None = true
sent_within count did (Some p) = nat_lt p.machine count && (nat_le 1 p.doing && nat_le p.doing (slice_index did.of p.machine))

abbrev pub Sent : ℕ → Counts → ℕ → List State → Type 0
Sent count did len states = (p : ℕ) → p < len → sent_within count did (slice_index_or states p still).sending ≡ true
