-- What noting doings one by one promises.
-- Assumes nothing.
use Rattle.std.specs.Prelude.{◌≡◌, ℕ, ◌+◌, true, List, is_some, Some, ◌≢◌}
use Rattle.records.specs.declared.doing.Kind.{Kind}
use Rattle.records.specs.declared.doing.Kind.TheVariants.{Neither}
use Rattle.records.specs.declared.doing.Doing.{Doing}
use Rattle.records.specs.declared.place.Place.{Place}
use Rattle.records.specs.declared.refusal.Refusal.{Refusal}
use Rattle.records.specs.declared.refusal.Refusal.TheVariants as why
use Rattle.records.specs.Record.{Record, machine_of, kind_of}
use Rattle.records.specs.Refusal.{Earlier, FirstPlace, Again, Unsent}
use Rattle.letters.specs.declared.seen.Seen.{Seen}
use Rattle.letters.specs.Seen.{seen_at}

abbrev pub place : ℕ → ℕ → Place
place i m = record { machine = i; doing = m }

-- what is wrong with records: the first doing that does again what an earlier one did, or where there is none the first that gets what nobody sent
abbrev pub Wrong : List Record → Refusal → Type 0
Wrong rs (why.Form p) = ⊥
Wrong rs (why.Again p) = FirstPlace (Again rs) p
Wrong rs (why.Unsent p) = ((q : Place) → Again rs q → ⊥) × FirstPlace (Unsent rs) p
Wrong rs (why.Ring v) = ⊥

-- all doings earlier than p are noted, each under its kind, and none of them does what an earlier one did
pub record Sofar (rs : List Record) (p : Place) (s : Seen) : Type 0 where
  pub is : (k : Kind) (x : Place) → seen_at s k ≡ Some x → (kind_of rs x.machine x.doing ≡ k) × Earlier x p
  pub all : (q : Place) → Earlier q p → (kind_of rs q.machine q.doing ≢ Neither) → is_some (seen_at s (kind_of rs q.machine q.doing)) ≡ true
  pub once : (q : Place) → Earlier q p → Again rs q → ⊥

-- the same of all doings
pub record Noted (rs : List Record) (s : Seen) : Type 0 where
  pub is : (k : Kind) (x : Place) → seen_at s k ≡ Some x → kind_of rs x.machine x.doing ≡ k
  pub all : (i m : ℕ) → (kind_of rs i m ≢ Neither) → is_some (seen_at s (kind_of rs i m)) ≡ true
  pub once : (q : Place) → Again rs q → ⊥

-- whatever records machine i's doings ds are of: with the machines before it noted in s, it is noted, too, in t; or it shows the first doing again
abbrev pub MachineNoted : ℕ → List Doing → (s t : Seen) → Type 0
MachineNoted i ds s t = (rs : List Record) → (machine_of rs i).doings ≡ ds → Sofar rs (place i 1) s → Sofar rs (place (i + 1) 1) t

abbrev pub NotedAgain : ℕ → List Doing → Seen → Refusal → Type 0
NotedAgain i ds s why = (rs : List Record) → (machine_of rs i).doings ≡ ds → Sofar rs (place i 1) s → Wrong rs why
